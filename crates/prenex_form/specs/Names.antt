-- The names of a prenex form (document 01, "Names").
-- Assumes nothing.
use Rattle.std.specs.Prelude.{List, ℕ, ◌+◌, ltb}
use Rattle.lists.specs.Choice.{pick}
use Rattle.lists.specs.Members.{place, maximum}
use Rattle.lists.specs.Parts.{sum, highest, numbers}
use Rattle.formula.specs.Node.{Node, constant, variable, negation, operator, block, Table, bound}
use Rattle.formula.specs.Tree.{count, bound_below}
use Rattle.prenex_form.specs.Scope.{binder, inner}

-- The highest number at a node: its own at a variable node, the highest covered entry at a block.
unfoldable pub highest_at : Node → ℕ
highest_at (constant b) = 0
highest_at (variable x) = x
highest_at (negation a) = 0
highest_at (operator f a b) = 0
highest_at (block q xs a) = maximum xs

-- "F is the highest number at a variable node or in a covered entry, 0 if none."
unfoldable pub highest_number : Table → ℕ
highest_number t = highest (λ i. highest_at (t.node i)) t.size

-- "q the sum of counts"
unfoldable pub bound_count : Table → ℕ
bound_count t = bound_below t t.size

-- "Bound variables are always renamed: blocks in node order, entries in list order, get F + 1 and up to F + q": the name of
-- the first variable that block i binds, and the names of all.
unfoldable pub first_name : Table → ℕ → ℕ
first_name t i = highest_number t + 1 + bound_below t i

unfoldable pub new_names : Table → ℕ → List ℕ
new_names t i = numbers (first_name t i) (count t i)

-- "A variable node belongs to the nearest block above it that covers its number; if there is none it is free and keeps it":
-- the new name of the number x at node i.
unfoldable pub new_name : Table → ℕ → ℕ → ℕ
new_name t i x =
    let b = binder t i x in
    pick (ltb b t.size) (first_name t b + place x (bound (t.node b))) x

-- The sum of the counts of the inner blocks below node i, and how many there are.
unfoldable pub inner_bound_below : Table → ℕ → ℕ
inner_bound_below t i = sum (λ j. pick (inner t j) (count t j) 0) i

unfoldable pub inner_below : Table → ℕ → ℕ
inner_below t i = sum (λ j. pick (inner t j) 1 0) i

-- "Inner blocks, again in node and list order, get one copy for each bound variable (F + q + 1 and up)".
unfoldable pub copies : Table → ℕ → List ℕ
copies t i = numbers (highest_number t + bound_count t + 1 + inner_bound_below t i) (count t i)

-- "and after all the copies one mark for each inner block" (in node order): block i's definition variable.
unfoldable pub definition_variable : Table → ℕ → ℕ
definition_variable t i = highest_number t + bound_count t + inner_bound_below t t.size + 1 + inner_below t i
