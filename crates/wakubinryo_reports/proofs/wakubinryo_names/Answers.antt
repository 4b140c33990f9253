-- `wakubinryo_reports::wakubinryo_names` meets its contract.
-- Assumes nothing.
use mathlib.Core.Path.{sym, ◌∙◌, subst}
use Prim.Native.Nat.{ℕ, ◌≤◌}
use Rattle.refusals.specs.Verdict.{Plain}
use Rattle.refusals.specs.Outcome.{AnswerWith}
use Rattle.name_lines.proofs.Verdicts.{counted_plain, counted_few}
use Rattle.wakubinryo_reports.proofs.wakubinryo_names.Goals as goal

pub put_names-requires : goal.put_names-requires
put_names-requires c = subst (λ (a : AnswerWith ℕ). Plain a.verdict × (a.sizes ≤ 256)) (sym c.check_names.ensures) (counted_plain _, counted_few _)

pub returns : goal.returns
returns c = c.put_names.ensures ∙ c.check_names.ensures
