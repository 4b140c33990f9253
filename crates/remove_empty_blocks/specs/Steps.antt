-- What the functions of the operation ask of the table, and what the array holds while they go up the nodes. The public contract cites
-- neither.
-- Assumes nothing.
use Rattle.std.specs.Prelude.{List, ◌≡◌, ℕ, ◌<◌, ◌≤◌, length, get_or}
use Rattle.formula.specs.Words.{node_count}
use Rattle.acceptance.specs.Limits.{limit}
use Rattle.acceptance.specs.Accepted.{LowerOperands}
use Rattle.empty_blocks.specs.Removal.{new_index}

-- At most as many nodes as a table may have, with lower operands.
pub record SmallTable (ws : List ℕ) : Type 0 where
  pub few : node_count ws ≤ limit
  pub lower : LowerOperands ws

-- The new indices of the nodes below node i.
pub record NewIndices (ws indices : List ℕ) (i : ℕ) : Type 0 where
  pub long : length indices ≡ limit
  pub index_is : (j : ℕ) → j < i → get_or indices j 0 ≡ new_index ws j
