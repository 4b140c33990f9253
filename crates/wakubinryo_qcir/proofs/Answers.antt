-- From the outcome of a reading to the one that C's words say.
-- Assumes nothing.
use mathlib.Core.Path.{◌≡◌, sym, subst}
use mathlib.Core.List.{List}
use Prim.Native.Nat.{ℕ}
use Rattle.refusals.specs.Outcome.{AnswerWith, Outcome}
use Rattle.qcir.specs.FromText.{limits}
use Rattle.qcir.specs.Reading.{Written, Buffers, buffers, Reading, Only, TableWritten}
use Rattle.qcir_reader.specs.declared.Answer.{Answer}
use Rattle.qcir_reader.specs.Reads.{answer_of, after}

-- what is promised of an outcome, clause by clause
abbrev Said : List ℕ → Buffers → Outcome Written Buffers → Type 0
Said text before o = Reading limits text before o × (Only limits text before o × TableWritten limits.names text o)

-- what is promised of an answer holds of an equal one
pub read_said : (text words list words' list' : List ℕ) (r : Answer) (a : AnswerWith Written) → a ≡ answer_of r → Said text (buffers words list) (after r (buffers words' list')) → Said text (buffers words list) (record { answer = a; buffers = buffers words' list' })
read_said text words list words' list' r a e h = subst (λ (x : AnswerWith Written). Said text (buffers words list) (record { answer = x; buffers = buffers words' list' })) (sym e) h
