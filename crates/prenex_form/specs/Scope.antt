-- Where the nodes of a table stand: parents, paths, the blocks above a node (document 01, "The formula table", "Names").
-- Assumes nothing.
use Rattle.std.specs.Prelude.{Bool, not, ◌&&◌, List, [], ◌∷◌, ℕ, zero, suc, ◌+◌, eqb, ltb}
use Rattle.lists.specs.Choice.{pick}
use Rattle.lists.specs.Search.{lowest}
use Rattle.lists.specs.Members.{mem}
use Rattle.lists.specs.Parts.{highest}
use Rattle.formula.specs.Node.{Table, operands, is_block, bound}

-- The node that names node i, which a table has once for each node but the root; the table's size for the root.
unfoldable pub parent : Table → ℕ → ℕ
parent t i = lowest (λ j. mem i (operands (t.node j))) t.size

-- The path from node i to the root, both with it. The first argument bounds its length; the table's size always suffices.
unfoldable pub path_up : ℕ → Table → ℕ → List ℕ
path_up zero t i = []
path_up (suc f) t i = let p = parent t i in i ∷ pick (ltb p t.size) (path_up f t p) []

unfoldable pub path : Table → ℕ → List ℕ
path t i = path_up t.size t i

-- Node b is above node i: it stands on i's path to the root and is not i.
unfoldable pub above : Table → ℕ → ℕ → Bool
above t b i = mem b (path t i) && not (eqb b i)

-- Node b is a block that covers the number x.
abbrev pub covers : Table → ℕ → ℕ → Bool
covers t b x = is_block (t.node b) && mem x (bound (t.node b))

-- "A variable node belongs to the nearest block above it that covers its number" (document 01: its owner). Whatever stands above
-- a node has a higher index, so the nearest is the lowest. The table's size if there is none.
unfoldable pub binder : Table → ℕ → ℕ → ℕ
binder t i x = lowest (λ b. covers t b x && above t b i) t.size

-- "A block is inner if it isn't the root."
unfoldable pub inner : Table → ℕ → Bool
inner t i = is_block (t.node i) && not (eqb (suc i) t.size)

-- How many nodes of the list pass the test.
unfoldable pub how_many : (ℕ → Bool) → List ℕ → ℕ
how_many p [] = 0
how_many p (i ∷ is) = pick (p i) 1 0 + how_many p is

-- "Its level is the number of inner blocks on the path from the root to it, itself counted."
unfoldable pub level : Table → ℕ → ℕ
level t i = how_many (inner t) (path t i)

-- "Quantifier depth is the largest number of blocks on a path from the root."
unfoldable pub depth : Table → ℕ
depth t = highest (λ i. how_many (λ j. is_block (t.node j)) (path t i)) t.size
