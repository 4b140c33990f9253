-- What the passes that chain the nodes of a table t start from, and what holds after each step.
-- Assumes nothing.
use Rattle.std.specs.Prelude.{Bool, true, ◌&&◌, List, ◌≡◌, ℕ, suc, ◌<◌, ◌≤◌, max, eqb, length, get_or}
use Rattle.lists.specs.Parts.{highest}
use Rattle.formula.specs.Node.{Table, is_block}
use Rattle.formula.specs.Tree.{bound_below}
use Rattle.acceptance.specs.Limits.{limit}
use Rattle.prenex_form.specs.Scope.{inner, level}
use Rattle.prenex_form.specs.Names.{highest_at, highest_number}
use Rattle.arrays.specs.Held.{enclosing, is_member}
use Rattle.arrays.specs.Link.{link}
use Rattle.chains.specs.declared.Passed.{Passed}

-- Arrays for chains, with so many keys: their lengths, and no node chained yet. Of parent blocks there is one more than nodes, for the
-- scope outside all blocks.
pub record Cleared (keys : ℕ) (firsts nexts : List ℕ) : Type 0 where
  pub firsts_length : length firsts ≡ keys
  pub nexts_length : length nexts ≡ limit
  pub firsts_clear : (k : ℕ) → get_or firsts k 0 ≡ 0

-- The numbers from i up are chained by their keys.
pub record LinkedFrom (passes : ℕ → Bool) (key : ℕ → ℕ) (n i : ℕ) (firsts nexts : List ℕ) : Type 0 where
  pub first_is : (k : ℕ) → get_or firsts k 0 ≡ link (λ j. passes j && eqb (key j) k) i n
  pub next_is : (j : ℕ) → i ≤ j → j < n → passes j ≡ true → get_or nexts j 0 ≡ link (λ m. passes m && eqb (key m) (key j)) (suc j) n

-- The inner blocks from node i up are chained by level, and the variable nodes and blocks by parent block.
abbrev pub LevelsFrom : Table → ℕ → List ℕ → List ℕ → Type 0
LevelsFrom t i firsts nexts = LinkedFrom (inner t) (level t) t.size i firsts nexts

abbrev pub MembersFrom : Table → ℕ → List ℕ → List ℕ → Type 0
MembersFrom t i firsts nexts = LinkedFrom (λ j. is_member (t.node j)) (enclosing t) t.size i firsts nexts

-- The pass over the members has done the nodes from i up.
pub record ChainedFrom (t : Table) (i : ℕ) (firsts nexts starts : List ℕ) (p : Passed) : Type 0 where
  pub firsts_length : length firsts ≡ suc limit
  pub nexts_length : length nexts ≡ limit
  pub starts_length : length starts ≡ limit
  pub members_linked : MembersFrom t i firsts nexts
  pub start_is : (j : ℕ) → i ≤ j → j < t.size → is_block (t.node j) ≡ true → get_or starts j 0 ≡ bound_below t j
  pub start_here : p.start ≡ bound_below t i
  -- with the nodes below i it is the whole table's
  pub highest_is : max (highest (λ j. highest_at (t.node j)) i) p.highest ≡ highest_number t
