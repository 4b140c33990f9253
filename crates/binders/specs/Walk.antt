-- The walk through the scopes of a table: what it reads, what it has still to do, and what holds on its way.
-- Assumes nothing.
use Rattle.std.specs.Prelude.{true, List, [], ◌∷◌, ◌++◌, ◌⊎◌, ◌≡◌, ℕ, zero, suc, ◌+◌, ◌*◌, ◌<◌, ◌≤◌, ltb, length, get_or}
use Rattle.lists.specs.Choice.{pick}
use Rattle.lists.specs.Members.{mem}
use Rattle.lists.specs.Parts.{sum}
use Rattle.formula.specs.Node.{Node, constant, variable, negation, operator, block, Table, is_block}
use Rattle.formula.specs.Words.{node_count, table_of}
use Rattle.formula.specs.Tree.{count}
use Rattle.refusals.specs.Verdict.{accepted}
use Rattle.acceptance.specs.Limits.{limit}
use Rattle.acceptance.specs.Verdict.{verdict}
use Rattle.arrays.specs.Chains.{between}
use Rattle.arrays.specs.Held.{enclosing, member, Parents, MemberChains, Starts, bound_entry}
use Rattle.binders.specs.Scope.{Open}
use Rattle.binders.specs.declared.Place.{Place}

-- An accepted table, each node's parent block, the variable nodes and blocks chained by it, and where each block's entries start.
pub record Scopes (ws ls parents firsts nexts starts : List ℕ) : Type 0 where
  pub accepts : verdict ws ls ≡ accepted
  pub parents_length : length parents ≡ limit
  pub firsts_length : length firsts ≡ suc limit
  pub nexts_length : length nexts ≡ limit
  pub starts_length : length starts ≡ limit
  pub parents_hold : Parents (table_of ws ls) parents
  pub chains_hold : MemberChains (table_of ws ls) firsts nexts
  pub starts_hold : Starts (table_of ws ls) starts

-- The nodes that the walk comes by from node i on until it is done with it: a variable node once; a block when it enters and when
-- it leaves, and between what is right in its scope. The first argument bounds how far down it goes; the table's size suffices.
unfoldable pub within : ℕ → Table → ℕ → List ℕ
within zero t i = []
within (suc f) t i =
    pick (is_block (t.node i)) (i ∷ (between (λ j. pick (member t i j) (within f t j) []) 0 t.size ++ (i ∷ []))) (i ∷ [])

-- The same of the nodes from k up that are right in block b's scope.
unfoldable pub rest : Table → ℕ → ℕ → List ℕ
rest t b k = between (λ j. pick (member t b j) (within t.size t j) []) k t.size

-- What comes after all that is in block b's scope: leaving b, and what is left of the scopes around it. The first argument bounds how
-- far up it goes; the table's size suffices.
unfoldable pub around : ℕ → Table → ℕ → List ℕ
around zero t b = []
around (suc f) t b = pick (ltb b t.size) (b ∷ (rest t (enclosing t b) (suc b) ++ around f t (enclosing t b))) []

-- one more than a node, as the node; past the last node for 0
unfoldable pub from : Table → ℕ → ℕ
from t zero = t.size
from t (suc i) = i

-- What the walk comes by from a place on.
unfoldable pub todo : Table → Place → List ℕ
todo t p = rest t p.scope (from t p.link) ++ around t.size t p.scope

-- The steps for a list of nodes that the walk comes by: one for each, and one for each entry of a block, put or taken away.
unfoldable pub steps_of : Table → List ℕ → ℕ
steps_of t [] = 0
steps_of t (i ∷ is) = suc (count t i) + steps_of t is

-- The steps that are left to take at a place.
abbrev pub steps_left : Table → Place → ℕ
steps_left t p = steps_of t (todo t p)

-- The steps that a node costs in all: the walk comes by a variable node once, and by a block twice, to enter and to leave it.
unfoldable pub steps_at : Node → ℕ
steps_at (constant b) = 0
steps_at (variable x) = 1
steps_at (negation a) = 0
steps_at (operator f a b) = 0
steps_at (block q xs a) = 2 * suc (length xs)

-- The steps of the whole walk.
unfoldable pub walk_steps : Table → ℕ
walk_steps t = sum (λ i. steps_at (t.node i)) t.size

-- There is a node to come by, or a block to leave.
abbrev pub Unfinished : List ℕ → List ℕ → Place → Type 0
Unfinished ws ls p = (p.scope < node_count ws) ⊎ (0 < p.link)

-- What holds at a place: the entries of its scope are chained, and the variable nodes that the walk does not come by any more have
-- their entries.
pub record Walking (ws ls bindings heads nexts : List ℕ) (p : Place) : Type 0 where
  pub bindings_length : length bindings ≡ limit
  pub scope_le : p.scope ≤ node_count ws
  pub scope_block : p.scope < node_count ws → is_block ((table_of ws ls).node p.scope) ≡ true
  pub link_le : p.link ≤ node_count ws
  pub link_member : (i : ℕ) → p.link ≡ suc i → member (table_of ws ls) p.scope i ≡ true
  pub opened : Open (table_of ws ls) p.scope 0 heads nexts
  pub found : (i x : ℕ) → i < node_count ws → (table_of ws ls).node i ≡ variable x
      → (get_or bindings i 0 ≡ bound_entry (table_of ws ls) i x) ⊎ (mem i (todo (table_of ws ls) p) ≡ true)
