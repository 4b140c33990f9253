-- What reading a text answers and leaves in the two buffers.
-- Assumes nothing.
use Rattle.std.specs.Prelude.{List, ℕ}
use Rattle.refusals.specs.Outcome.{AnswerWith, Outcome}
use Rattle.qcir.specs.FromText.{limits}
use Rattle.qcir.specs.Reading.{Written, Buffers, buffers, Reading, Only, TableWritten}
use Rattle.qcir_reader.specs.declared.Answer.{Answer}

abbrev pub answer_of : Answer → AnswerWith Written
answer_of r = record { verdict = r.verdict; sizes = record { words = r.words; entries = r.entries } }

-- An answer, and what the buffers hold with it.
abbrev pub after : Answer → Buffers → Outcome Written Buffers
after r held = record { answer = answer_of r; buffers = held }

-- What is promised of reading a text: the outcome is one that reading it has, no other is, and, if done, what was written is
-- accepted by the table checker and has the file's truth value.
pub record Reads (text words list words' list' : List ℕ) (r : Answer) : Type 0 where
  pub reading : Reading limits text (buffers words list) (after r (buffers words' list'))
  pub only : Only limits text (buffers words list) (after r (buffers words' list'))
  pub table : TableWritten limits.names text (after r (buffers words' list'))
