-- The answers of reading that C's words say.
-- Assumes nothing.
use Rattle.std.specs.Prelude.{List, ℕ, get_or}
use Rattle.refusals.specs.Verdict.{refusal}
use Rattle.refusals.specs.Outcome.{AnswerWith, Outcome}
use Rattle.qcir.specs.Reading.{Written, Buffers}

-- An answer of four words: number and position, and the words and list entries written.
unfoldable pub written_answer : List ℕ → AnswerWith Written
written_answer a =
    record {
      verdict = refusal (get_or a 0 0) (get_or a 1 0);
      sizes = record { words = get_or a 2 0; entries = get_or a 3 0 };
    }

abbrev pub read_outcome : List ℕ → Buffers → Outcome Written Buffers
read_outcome a held = record { answer = written_answer a; buffers = held }
