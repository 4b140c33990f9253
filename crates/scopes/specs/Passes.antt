-- What the pass from the root down over a table t holds after each step.
-- Assumes nothing.
use Rattle.std.specs.Prelude.{List, ◌≡◌, ℕ, ◌+◌, ◌<◌, ◌≤◌, get_or}
use Rattle.lists.specs.Choice.{pick}
use Rattle.lists.specs.Members.{mem}
use Rattle.formula.specs.Node.{Table}
use Rattle.prenex_form.specs.Scope.{parent, inner, level}
use Rattle.arrays.specs.Held.{enclosing}

-- After a value was stored at each of the indices xs, the other elements are as before.
pub record Stored (xs : List ℕ) (value : ℕ) (before after : List ℕ) : Type 0 where
  pub element_is : (x : ℕ) → get_or after x 0 ≡ pick (mem x xs) value (get_or before x 0)

-- The pass from the root down has done the nodes from i up: every node whose parent is among them, or is none, has its parent
-- block. Of those the nodes from i up have their level, the others their parent's.
pub record ScopesFrom (t : Table) (i : ℕ) (parents levels : List ℕ) : Type 0 where
  pub parent_is : (x : ℕ) → x < t.size → i ≤ parent t x → get_or parents x 0 ≡ enclosing t x
  pub level_is : (x : ℕ) → i ≤ x → x < t.size → get_or levels x 0 ≡ level t x
  pub inherited_is : (x : ℕ) → x < i → x < t.size → i ≤ parent t x → pick (inner t x) 1 0 + get_or levels x 0 ≡ level t x
