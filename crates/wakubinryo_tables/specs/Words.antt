-- The answers that C's words say.
-- Assumes nothing.
use Rattle.std.specs.Prelude.{List, ℕ, get_or}
use Rattle.refusals.specs.declared.Verdict.{Verdict}
use Rattle.refusals.specs.Outcome.{AnswerWith, Outcome}
use Rattle.prenex_form.specs.declared.Sizes.{Sizes}
use Rattle.prenex.specs.Outcome.{FormBuffers}

-- The verdict in an answer's first four words: number, position, first user, second user.
unfoldable pub verdict_in : List ℕ → Verdict
verdict_in a = record { number = get_or a 0 0; position = get_or a 1 0; users = record { first = get_or a 2 0; second = get_or a 3 0 } }

-- An answer of eleven words: the verdict, and the sizes in document 01's order.
unfoldable pub sizes_answer : List ℕ → AnswerWith Sizes
sizes_answer a =
    record {
      verdict = verdict_in a;
      sizes = record { n = get_or a 4 0; b = get_or a 5 0; q = get_or a 6 0; depth = get_or a 7 0; nodes = get_or a 8 0; blocks = get_or a 9 0; entries = get_or a 10 0 };
    }

-- An answer of five words: the verdict, and how many names or nodes were written.
unfoldable pub count_answer : List ℕ → AnswerWith ℕ
count_answer a = record { verdict = verdict_in a; sizes = get_or a 4 0 }

-- The outcomes of the calls that write: a form, and names or nodes.
abbrev pub lift_outcome : List ℕ → FormBuffers → Outcome Sizes FormBuffers
lift_outcome a held = record { answer = sizes_answer a; buffers = held }

abbrev pub count_outcome : List ℕ → List ℕ → Outcome ℕ (List ℕ)
count_outcome a held = record { answer = count_answer a; buffers = held }
