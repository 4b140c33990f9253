-- The lines of clauses, and the words of the variables in them.
-- Assumes nothing.
use mathlib.Core.List.{List, flat_map}
use Rattle.std.specs.Prelude.{◌≡◌, ℕ, ◌<◌}
use Rattle.texts.specs.Bounds.{number_bound}
use Rattle.qdimacs.specs.Problem.{Clause}
use Rattle.qdimacs.specs.Spelling.{clause_line}
use Rattle.qdimacs.specs.Text.{line_text}
use Rattle.qdimacs_words.specs.Words.{numeral_word}

-- The lines of clauses.
unfoldable pub lines_text : List Clause → List ℕ
lines_text cs = flat_map (λ (c : Clause). line_text (clause_line c)) cs

-- The word is that of a number that can be written.
pub record IsWord (word x : ℕ) : Type 0 where
  pub word_of : word ≡ numeral_word x
  pub writable : x < number_bound

abbrev pub SomeWord : ℕ → Type 0
SomeWord word = (x : ℕ) × IsWord word x
