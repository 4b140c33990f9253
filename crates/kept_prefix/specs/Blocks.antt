-- Of lists and of prefix blocks: the elements that pass a test, the variables of blocks, and the blocks that bind one. These are what
-- qcir (specs/Refusals.antt: keep), form_check (specs/Accepted.antt: prefix_names) and qdimacs_form (specs/Clauses.antt: filled_blocks)
-- say of files and of forms that are read, said here for tables, which need none of these crates.
-- Assumes nothing.
use Rattle.std.specs.Prelude.{Bool, ℕ, eqb, length}
use mathlib.Core.List.{List, [], ◌∷◌, flat_map}
use Rattle.lists.specs.Choice.{pick}
use Rattle.formula.specs.Form.{Block}

-- The elements that pass the test.
unfoldable pub keep : (ℕ → Bool) → List ℕ → List ℕ
keep p [] = []
keep p (y ∷ ys) = pick (p y) (y ∷ keep p ys) (keep p ys)

-- The variables of prefix blocks, in the prefix's order.
unfoldable pub prefix_names : List Block → List ℕ
prefix_names bs = flat_map (λ (b : Block). b.variables) bs

-- The blocks that bind a variable.
unfoldable pub filled_blocks : List Block → List Block
filled_blocks [] = []
filled_blocks (b ∷ bs) = pick (eqb (length b.variables) 0) (filled_blocks bs) (b ∷ filled_blocks bs)
