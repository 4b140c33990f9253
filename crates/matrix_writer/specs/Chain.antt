-- The nodes of a level's blocks after one of them, and the quantifier of a level.
-- Assumes nothing.
use Rattle.std.specs.Prelude.{List, ◌≡◌, ℕ, suc, ◌<◌}
use Rattle.formula.specs.Node.{Quantifier, Node, Table}
use Rattle.prenex_form.specs.Scope.{level}
use Rattle.prenex_form.specs.Levels.{levels, level_quantifier}
use Rattle.prenex_form.specs.Matrix.{further}
use Rattle.arrays.specs.Chains.{blocks_from}

-- the nodes of the blocks after block i of its level, the first at index s
abbrev pub nodes_after : Table → ℕ → ℕ → List Node
nodes_after t i s = further t (blocks_from t (level t i) (suc i)) s

-- level j + 1 is a level of the table, and has this quantifier
pub record IsLevel (t : Table) (j : ℕ) (q : Quantifier) : Type 0 where
  pub below : j < levels t
  pub quantifier_is : q ≡ level_quantifier t j
