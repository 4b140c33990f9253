-- `report_text::report` meets its contract.
-- Assumes nothing.
use mathlib.Core.Path.{ap}
use native.Mathlib.Omega.{arith}
use Prim.Native.Nat.{ℕ}
use Rattle.refusals.specs.Outcome.{AnswerWith}
use Rattle.report_text.proofs.Reports.{names_refused, names_few, lines_refused, line_each}
use Rattle.report_text.proofs.report.Goals as goal

pub returns-then-verdict-ne-ACCEPTED : goal.returns-then-verdict-ne-ACCEPTED
returns-then-verdict-ne-ACCEPTED c =
    let found = c.check_names-found.ensures in
    let no = c.refused.ensures in
    names_refused _ _ c.args.out.now _ _ (ap (λ (a : AnswerWith ℕ). a.verdict) found) c.if-verdict-ne-ACCEPTED.true no.0 no.1 no.2

pub overflow_mul-count : goal.overflow_mul-count
overflow_mul-count c = omega (arith, names_few _ c.args.lines.now _ _ c.check_names-found.ensures c.if-verdict-ne-ACCEPTED.false)

pub returns-then-lines-count : goal.returns-then-lines-count
returns-then-lines-count c =
    let no = c.refused-then-lines-count.ensures in
    lines_refused _ _ _ _ c.check_names-found.ensures c.if-verdict-ne-ACCEPTED.false c.args.out.now _ c.if-lines-count.true no.0 no.1 no.2

pub write-requires : goal.write-requires
write-requires c = line_each _ _ _ _ c.check_names-found.ensures c.if-verdict-ne-ACCEPTED.false c.if-lines-count.false
