-- `wakubinryo_reports::put_names` meets its contract.
-- Assumes nothing.
use mathlib.Core.Path.{sym, ap}
use Prim.Native.Nat.{ℕ}
use Rattle.refusals.specs.declared.Verdict.{Verdict}
use Rattle.refusals.specs.Outcome.{AnswerWith}
use Rattle.wakubinryo_reports.specs.Words.{names_answer}
use Rattle.wakubinryo_reports.proofs.put_names.Goals as goal

-- an answer with this count
abbrev with : ℕ → Verdict → AnswerWith ℕ
with count v = record { verdict = v; sizes = count }

pub returns : goal.returns
unfolding names_answer
returns c = ap (with _) (sym c.requires.0)
