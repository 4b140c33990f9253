-- The shape of a table: which node names which (document 01, "The formula table"; users: request S-2).
-- Assumes nothing.
use Rattle.std.specs.Prelude.{true, List, ◌≡◌, ℕ, suc, ◌<◌, ltb, length, replicate}
use Rattle.lists.specs.Choice.{pick}
use Rattle.lists.specs.Members.{mem, times, distinct, Ascending}
use Rattle.lists.specs.Parts.{up_to, sum}
use Rattle.formula.specs.Node.{Table, operands, is_block, bound}

-- What holds of the list of the users of node i, the nodes that name it:
pub record UsersOf (t : Table) (i : ℕ) (us : List ℕ) : Type 0 where
  -- a node stands there once for each time that it names node i ("a parent naming it twice stands twice"), and nothing else does
  pub named : (j : ℕ) → times j us ≡ pick (ltb j t.size) (times i (operands (t.node j))) 0
  -- the lowest come first
  pub ascending : Ascending us

-- This list, of which there is one (specs/Laws.antt).
unfoldable pub users : Table → ℕ → List ℕ
users t i = up_to (λ j. replicate (times i (operands (t.node j))) j) t.size

-- How often the nodes of a table name node i: the length of that list (UsersCounted).
unfoldable pub times_named : Table → ℕ → ℕ
times_named t i = sum (λ j. times i (operands (t.node j))) t.size

-- "Operands and bodies have lower indices than the node that names them, and each node but the last is named exactly
-- once: a table is a tree."
pub record Tree (t : Table) : Type 0 where
  pub nonempty : 0 < t.size
  pub lower : (i a : ℕ) → i < t.size → mem a (operands (t.node i)) ≡ true → a < i
  pub once : (i : ℕ) → suc i < t.size → times_named t i ≡ 1

-- The number of variables that node i binds: its count at a block, 0 elsewhere.
unfoldable pub count : Table → ℕ → ℕ
count t i = length (bound (t.node i))

-- The sum of the counts of the blocks below node i. At the table's size it is document 01's q.
unfoldable pub bound_below : Table → ℕ → ℕ
bound_below t i = sum (count t) i

-- A table is a tree, and no block binds a number twice.
pub record Proper (t : Table) : Type 0 where
  pub tree : Tree t
  pub apart : (i : ℕ) → i < t.size → distinct (bound (t.node i)) ≡ true

-- Each block binds a variable: no block is empty (request S-6).
abbrev pub NoEmptyBlocks : Table → Type 0
NoEmptyBlocks t = (i : ℕ) → i < t.size → is_block (t.node i) ≡ true → 0 < count t i
