-- `wakubinryo_reports::put_totals` meets its contract.
-- Assumes nothing.
use mathlib.Core.Path.{sym, ap}
use Rattle.refusals.specs.declared.Verdict.{Verdict}
use Rattle.refusals.specs.Outcome.{AnswerWith}
use Rattle.growth.specs.declared.Totals.{Totals}
use Rattle.wakubinryo_reports.specs.Words.{total_answer}
use Rattle.wakubinryo_reports.proofs.put_totals.Goals as goal

-- an answer with these totals
abbrev with : Totals → Verdict → AnswerWith Totals
with totals v = record { verdict = v; sizes = totals }

pub returns : goal.returns
unfolding total_answer
returns c = ap (with _) (sym c.requires)
