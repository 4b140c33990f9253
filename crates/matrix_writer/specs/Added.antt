-- The nodes that a prenex form has after its first ones (document 01, "The written form").
-- Assumes nothing.
use Rattle.std.specs.Prelude.{List, [], ◌++◌, ℕ, zero, suc, ◌+◌, length}
use Rattle.formula.specs.Node.{Node, Table}
use Rattle.prenex_form.specs.Matrix.{kept, level_nodes}

-- The nodes of the first l levels, which stand at index kept t and up.
unfoldable pub added_nodes : Table → ℕ → List Node
added_nodes t zero = []
added_nodes t (suc j) = let ns = added_nodes t j in ns ++ level_nodes t j (kept t + length ns)
