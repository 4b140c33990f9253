-- The header of a QCIR text: where it ends, or where the text stops being one.
-- Assumes nothing.
use Rattle.std.specs.Prelude.{List, [], ◌∷◌, ℕ, suc, ◌+◌, eqb, drop}
use Rattle.lists.specs.Choice.{pick}
use Rattle.qcir.specs.Spelling.{header}

-- With how many elements in common two lists begin.
unfoldable pub common : List ℕ → List ℕ → ℕ
common [] ys = 0
common (x ∷ xs) [] = 0
common (x ∷ xs) (y ∷ ys) = pick (eqb x y) (suc (common xs ys)) 0

-- The end of what the text has of the header from a position on.
unfoldable pub header_end : List ℕ → ℕ → ℕ
header_end text from = from + common header (drop from text)
