-- What the variables of a prefix block are made of.
-- Assumes nothing.
use Rattle.std.specs.Prelude.{List, [], ◌∷◌, ◌++◌, ℕ, ◌+◌}
use Rattle.lists.specs.Parts.{numbers}
use Rattle.formula.specs.Node.{Table}
use Rattle.formula.specs.Tree.{count, bound_below}
use Rattle.acceptance.specs.Limits.{limit}
use Rattle.prenex_form.specs.Names.{new_names, copies, definition_variable}
use Rattle.prefix_writer.specs.declared.Part.{Part}
use Rattle.prefix_writer.specs.declared.Part.TheVariants.{Own, Copies}

-- No first new name and no first copy is higher: numbers go up to 65,535, and at most 4,096 variables are bound.
abbrev pub highest_first : ℕ
highest_first = 65535 + limit + 1

-- The numbers of node i's entries, where the first of all entries has the number first.
unfoldable pub numbered : Table → ℕ → ℕ → List ℕ
numbered t first i = numbers (first + bound_below t i) (count t i)

-- A part of inner block i: its names and then its definition variable, or its copies.
unfoldable pub part_of : Table → Part → ℕ → List ℕ
part_of t Own i = new_names t i ++ (definition_variable t i ∷ [])
part_of t Copies i = copies t i
