-- `growth::total_lines` meets its contract. The loop keeps the totals of the lines before i, and that no sum is large.
-- Assumes nothing.
use mathlib.Core.Path.{◌≡◌, sym, ap, ◌∙◌}
use native.Mathlib.Omega.{arith}
use Rattle.growth.specs.Lines.{line_at}
use Rattle.growth.specs.Totals.{totals as totals_of}
use Rattle.growth.specs.Steps.{with_line}
use Rattle.growth.proofs.Steps.{none_by_default, totals_start, totals_next, within_start, within_more}
use Rattle.growth.proofs.total_lines.Goals as goal

pub loop-i-init : goal.loop-i-init
loop-i-init c =
    let none = none_by_default c.default-totals.result c.default-totals.ensures in
    (none ∙ sym (totals_start _), rw none (within_start _))

pub add_line-totals-requires : goal.add_line-totals-requires
add_line-totals-requires c = within_more (omega arith) c.loop-i.invariant.1

pub loop-i-preserved : goal.loop-i-preserved
loop-i-preserved c =
    let turn = c.loop-i in
    let lines = line_at c.args.lines.now in
    let next = c.add_line-totals.ensures.sums ∙ (λ k. with_line (turn.invariant.0 k) (c.line_at.ensures k)) in
    (next ∙ sym (totals_next lines turn.i), within_more (omega arith) (c.add_line-totals.ensures.within _ turn.invariant.1))

pub returns : goal.returns
returns c =
    let turn = c.loop-i in
    let at = c.args in
    let end : turn.i ≡ at.count = omega arith in
    turn.invariant.0 ∙ ap (totals_of (line_at at.lines.now)) end
