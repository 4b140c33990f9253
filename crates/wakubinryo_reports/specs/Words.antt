-- The answers about growth reports that C's words say.
-- Assumes nothing.
use Rattle.std.specs.Prelude.{List, ℕ, get_or}
use Rattle.refusals.specs.Verdict.{refusal}
use Rattle.refusals.specs.Outcome.{AnswerWith}
use Rattle.growth.specs.declared.Totals.{Totals}

-- An answer of twelve 64-bit words: number and position, and the totals.
unfoldable pub total_answer : List ℕ → AnswerWith Totals
total_answer a =
    record {
      verdict = refusal (get_or a 0 0) (get_or a 1 0);
      sizes = record {
        read = get_or a 2 0;
        refused = get_or a 3 0;
        n = get_or a 4 0;
        b = get_or a 5 0;
        q = get_or a 6 0;
        depth = get_or a 7 0;
        nodes = get_or a 8 0;
        variables = get_or a 9 0;
        most = record { written = get_or a 10 0; input = get_or a 11 0 };
      };
    }

-- An answer of three words: number and position, and how many names there are.
unfoldable pub names_answer : List ℕ → AnswerWith ℕ
names_answer a = record { verdict = refusal (get_or a 0 0) (get_or a 1 0); sizes = get_or a 2 0 }
