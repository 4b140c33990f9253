-- What stands in front of a form, in words, and a prefix whose ranges are moved.
-- Assumes nothing.
use Rattle.std.specs.Prelude.{List, [], ◌∷◌, ◌≡◌, ℕ, zero, suc, ◌+◌, ◌*◌, ◌≤◌, ◌<◌, length, get_or, drop}
use Rattle.lists.specs.Parts.{overwrite}
use Rattle.formula.specs.Node.{Table}
use Rattle.formula.specs.Form.{prefix_width, prefix_words}
use Rattle.kept_prefix.specs.Blocks.{prefix_names}
use Rattle.kept_prefix.specs.Leading.{outermost}
use Rattle.kept_prefix.specs.Kept.{front_blocks}

-- The words and the names of what stands in front of the k outermost blocks.
unfoldable pub front_words : Table → ℕ → List ℕ
front_words t k = prefix_words 0 (front_blocks t (outermost t k))

unfoldable pub front_names : Table → ℕ → List ℕ
front_names t k = prefix_names (front_blocks t (outermost t k))

-- There is room for them.
pub record FrontFits (t : Table) (k : ℕ) (prefix variables : List ℕ) : Type 0 where
  pub words_fit : length (front_words t k) ≤ length prefix
  pub names_fit : length (front_names t k) ≤ length variables

-- They stand at the starts of the two buffers.
pub record WrittenTo (t : Table) (k : ℕ) (prefix variables prefix' variables' : List ℕ) : Type 0 where
  pub words_are : prefix' ≡ overwrite prefix 0 (front_words t k)
  pub names_are : variables' ≡ overwrite variables 0 (front_names t k)

-- The words of the first blocks of a prefix, each range beginning so many entries later.
unfoldable pub moved : ℕ → ℕ → List ℕ → List ℕ
moved zero by ps = []
moved (suc m) by ps = get_or ps 0 0 ∷ (get_or ps 1 0 + by) ∷ get_or ps 2 0 ∷ moved m by (drop prefix_width ps)

-- The blocks are there, and their ranges can be moved.
pub record Movable (m by : ℕ) (ps : List ℕ) : Type 0 where
  pub blocks_there : prefix_width * m ≤ length ps
  pub firsts_fit : (j : ℕ) → j < m → get_or ps (prefix_width * j + 1) 0 + by < 4294967296
