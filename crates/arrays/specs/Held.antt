-- What the working arrays of a lift hold of a table t.
-- Assumes nothing.
use Rattle.std.specs.Prelude.{Bool, true, false, ◌&&◌, List, ◌≡◌, ℕ, suc, ◌+◌, ◌<◌, eqb, ltb, length, get_or}
use Rattle.lists.specs.Choice.{pick}
use Rattle.lists.specs.Search.{lowest}
use Rattle.lists.specs.Members.{place}
use Rattle.lists.specs.Parts.{up_to}
use Rattle.formula.specs.Node.{Node, constant, variable, negation, operator, block, Table, is_block, bound}
use Rattle.formula.specs.Words.{table_of}
use Rattle.formula.specs.Tree.{bound_below}
use Rattle.refusals.specs.Verdict.{accepted}
use Rattle.acceptance.specs.Limits.{limit}
use Rattle.acceptance.specs.Verdict.{verdict}
use Rattle.prenex_form.specs.Scope.{above, binder, inner, level}
use Rattle.prenex_form.specs.Names.{highest_number, bound_count, definition_variable}
use Rattle.arrays.specs.Link.{Chains}

-- The nearest block above node i, its parent among the blocks; the table's size if there is none.
unfoldable pub enclosing : Table → ℕ → ℕ
enclosing t i = lowest (λ b. is_block (t.node b) && above t b i) t.size

-- Each node's parent block.
pub record Parents (t : Table) (parents : List ℕ) : Type 0 where
  pub parent_is : (i : ℕ) → i < t.size → get_or parents i 0 ≡ enclosing t i

-- Each node's level.
pub record NodeLevels (t : Table) (levels : List ℕ) : Type 0 where
  pub level_is : (i : ℕ) → i < t.size → get_or levels i 0 ≡ level t i

-- Node i is an inner block of level l.
abbrev pub at_level : Table → ℕ → ℕ → Bool
at_level t l i = inner t i && eqb (level t i) l

-- The inner blocks chained by level.
abbrev pub LevelChains : Table → List ℕ → List ℕ → Type 0
LevelChains t firsts nexts = Chains (inner t) (level t) t.size firsts nexts

-- A variable node or a block: what a search for binders comes by.
unfoldable pub is_member : Node → Bool
is_member (constant b) = false
is_member (variable x) = true
is_member (negation a) = false
is_member (operator f a b) = false
is_member (block q xs a) = true

-- Node i is a variable node or a block right in block b's scope: b is its parent block. The table's size stands for the scope
-- outside all blocks.
abbrev pub member : Table → ℕ → ℕ → Bool
member t b i = is_member (t.node i) && eqb (enclosing t i) b

-- The variable nodes and blocks chained by parent block.
abbrev pub MemberChains : Table → List ℕ → List ℕ → Type 0
MemberChains t firsts nexts = Chains (λ i. is_member (t.node i)) (enclosing t) t.size firsts nexts

-- The bound variables of all blocks, in node and list order. Entry e is one of block i's where bound_below t i ≤ e and
-- e < bound_below t (suc i).
unfoldable pub entries : Table → List ℕ
entries t = up_to (λ i. bound (t.node i)) t.size

-- How many entries stand before each block's.
pub record Starts (t : Table) (starts : List ℕ) : Type 0 where
  pub start_is : (i : ℕ) → i < t.size → is_block (t.node i) ≡ true → get_or starts i 0 ≡ bound_below t i

-- The entry that binds the number x at node i, and one more, so that 0 says that x is free there.
unfoldable pub bound_entry : Table → ℕ → ℕ → ℕ
bound_entry t i x =
    let b = binder t i x in
    pick (ltb b t.size) (suc (bound_below t b + place x (bound (t.node b)))) 0

-- The entry that binds each variable node's number.
pub record Bindings (t : Table) (bindings : List ℕ) : Type 0 where
  pub binding_is : (i x : ℕ) → i < t.size → t.node i ≡ variable x → get_or bindings i 0 ≡ bound_entry t i x

-- The first of the new names, and the first of the copies. Entry e has the new name and the copy that come e numbers later.
abbrev pub first_new : Table → ℕ
first_new t = highest_number t + 1

abbrev pub first_copy : Table → ℕ
first_copy t = highest_number t + bound_count t + 1

-- The definition variable of each inner block.
pub record Definitions (t : Table) (definitions : List ℕ) : Type 0 where
  pub definition_is : (i : ℕ) → i < t.size → inner t i ≡ true → get_or definitions i 0 ≡ definition_variable t i

-- What is read of an accepted table, in arrays of 4,096 elements.

-- An accepted table, and where each block's entries start.
pub record Started (ws ls starts : List ℕ) : Type 0 where
  pub checked : verdict ws ls ≡ accepted
  pub started : Starts (table_of ws ls) starts
  pub starts_long : length starts ≡ limit

-- The parent blocks and levels of its nodes.
pub record Placed (ws ls parents levels : List ℕ) : Type 0 where
  pub parents_length : length parents ≡ limit
  pub levels_length : length levels ≡ limit
  pub parents_hold : Parents (table_of ws ls) parents
  pub levels_hold : NodeLevels (table_of ws ls) levels

-- The chains of its levels.
pub record Chained (ws ls firsts nexts : List ℕ) : Type 0 where
  pub chained : LevelChains (table_of ws ls) firsts nexts
  pub firsts_long : length firsts ≡ limit
  pub nexts_long : length nexts ≡ limit

-- Its first new name, its first copy and its definition variables.
pub record Named (ws ls : List ℕ) (names copies : ℕ) (definitions : List ℕ) : Type 0 where
  pub names_first : names ≡ first_new (table_of ws ls)
  pub copies_first : copies ≡ first_copy (table_of ws ls)
  pub defined : Definitions (table_of ws ls) definitions
  pub definitions_long : length definitions ≡ limit

-- The entry that binds each of its variable nodes' numbers.
pub record Bound (ws ls bindings : List ℕ) : Type 0 where
  pub bindings_length : length bindings ≡ limit
  pub bindings_hold : Bindings (table_of ws ls) bindings
