-- The form check in steps: what the functions of this crate decide and hold. The public contract cites none of these definitions.
-- Assumes nothing.
use Rattle.std.specs.Prelude.{Bool, true, not, ◌&&◌, List, [], ◌∷◌, ◌≡◌, ℕ, ◌+◌, ◌*◌, ltb, length, get_or}
use Rattle.lists.specs.Members.{mem, maximum}
use Rattle.formula.specs.Words.{is_block_kind}
use Rattle.formula.specs.Form.{prefix_width}
use Rattle.formula.specs.Truth.{digit}
use Rattle.acceptance.specs.Verdict.{is_number_to}
use Rattle.form_check.specs.Verdict.{form_limits}
use Rattle.form_check.specs.declared.BlockWords.{BlockWords}

-- The flags are those of these names, and this is the highest of them.
pub record NamesFlagged (names bound : List ℕ) (highest : ℕ) : Type 0 where
  pub wide : length bound ≡ 77824
  pub flag_is : (x : ℕ) → get_or bound x 0 ≡ digit (mem x names)
  pub highest_is : highest ≡ maximum names

-- x may be a name after these.
unfoldable pub new_name : List ℕ → ℕ → Bool
new_name before x = is_number_to form_limits.highest x && not (mem x before)

-- The same of the names of a list, one after the other.
unfoldable pub new_names : List ℕ → List ℕ → Bool
new_names before [] = true
new_names before (x ∷ xs) = new_name before x && new_names (x ∷ before) xs

-- The names of a list put before others, one after the other.
unfoldable pub pushed : List ℕ → List ℕ → List ℕ
pushed before [] = before
pushed before (x ∷ xs) = pushed (x ∷ before) xs

-- The words of block j.
abbrev pub block_words_at : List ℕ → ℕ → BlockWords
block_words_at ps j =
    record {
      kind = get_or ps (prefix_width * j) 0;
      first = get_or ps (prefix_width * j + 1) 0;
      count = get_or ps (prefix_width * j + 2) 0;
    }

-- A block with these words is of kind 5 or 6, and its range lies within a list of so many entries.
unfoldable pub fitting_block : BlockWords → ℕ → Bool
fitting_block b entries = is_block_kind b.kind && not (ltb entries (b.first + b.count))
