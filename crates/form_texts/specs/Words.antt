-- The answers of writing that C's words say.
-- Assumes nothing.
use Rattle.std.specs.Prelude.{List, ℕ, get_or}
use Rattle.refusals.specs.Verdict.{refusal}
use Rattle.refusals.specs.Outcome.{AnswerWith, Outcome}

-- An answer of three 64-bit words: number and position, and the bytes written.
unfoldable pub text_answer : List ℕ → AnswerWith ℕ
text_answer a = record { verdict = refusal (get_or a 0 0) (get_or a 1 0); sizes = get_or a 2 0 }

abbrev pub said_outcome : List ℕ → List ℕ → Outcome ℕ (List ℕ)
said_outcome a held = record { answer = text_answer a; buffers = held }
