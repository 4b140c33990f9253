-- `wakubinryo_qcir::put_answer` meets its contract.
-- Assumes nothing.
use mathlib.Core.Path.{sym, ap}
use Prim.Native.Nat.{ℕ}
use Rattle.refusals.specs.declared.Verdict.{Verdict}
use Rattle.refusals.specs.Outcome.{AnswerWith}
use Rattle.qcir.specs.Reading.{Written}
use Rattle.wakubinryo_qcir.specs.Words.{written_answer}
use Rattle.wakubinryo_qcir.proofs.put_answer.Goals as goal

-- an answer with these sizes
abbrev with : ℕ → ℕ → Verdict → AnswerWith Written
with words entries v = record { verdict = v; sizes = record { words = words; entries = entries } }

pub returns : goal.returns
unfolding written_answer
returns c = ap (with _ _) (sym c.requires)
