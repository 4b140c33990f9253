-- The answers of lifting and measuring texts that C's words say.
-- Assumes nothing.
use Rattle.std.specs.Prelude.{List, ℕ, ◌+◌, get_or}
use Rattle.refusals.specs.Verdict.{refusal}
use Rattle.refusals.specs.Outcome.{AnswerWith, Outcome}
use Rattle.prenex_form.specs.declared.Sizes.{Sizes}
use Rattle.text_answers.specs.Answers.{TextSizes}

-- The seven sizes of measuring from a word on, in document 01's order.
unfoldable pub sizes_from : ℕ → List ℕ → Sizes
sizes_from i a =
    record {
      n = get_or a i 0;
      b = get_or a (i + 1) 0;
      q = get_or a (i + 2) 0;
      depth = get_or a (i + 3) 0;
      nodes = get_or a (i + 4) 0;
      blocks = get_or a (i + 5) 0;
      entries = get_or a (i + 6) 0;
    }

-- An answer of ten 64-bit words: number and position, the bytes written, and the sizes.
unfoldable pub lift_answer : List ℕ → AnswerWith TextSizes
lift_answer a = record { verdict = refusal (get_or a 0 0) (get_or a 1 0); sizes = record { bytes = get_or a 2 0; table = sizes_from 3 a } }

-- An answer of nine words: number and position, and the sizes.
unfoldable pub measure_answer : List ℕ → AnswerWith Sizes
measure_answer a = record { verdict = refusal (get_or a 0 0) (get_or a 1 0); sizes = sizes_from 2 a }

-- An answer of lifting, and what the buffers hold with it.
abbrev pub outcome_of : {Buffers : Type 0} → List ℕ → Buffers → Outcome TextSizes Buffers
outcome_of a held = record { answer = lift_answer a; buffers = held }
