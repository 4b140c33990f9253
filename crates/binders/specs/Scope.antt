-- The entries in a block's scope, chained by their numbers.
-- Assumes nothing.
use Rattle.std.specs.Prelude.{Bool, true, ◌&&◌, ◌||◌, List, ◌≡◌, ℕ, suc, ◌<◌, ◌≤◌, eqb, ltb, length, get_or}
use Rattle.lists.specs.Search.{lowest}
use Rattle.formula.specs.Node.{Table}
use Rattle.formula.specs.Tree.{bound_below}
use Rattle.acceptance.specs.Limits.{limit}
use Rattle.prenex_form.specs.Scope.{above}
use Rattle.prenex_form.specs.Names.{highest_number, bound_count}
use Rattle.arrays.specs.Held.{entries}
use Rattle.arrays.specs.Link.{link}

-- The block that entry e is of: the lowest node with whose entries it has been counted.
unfoldable pub block_of : Table → ℕ → ℕ
block_of t e = lowest (λ i. ltb e (bound_below t (suc i))) t.size

-- Entry e is in the scope of block b: b or a block above it binds it. The table's size stands for the scope outside all blocks.
unfoldable pub in_scope : Table → ℕ → ℕ → Bool
in_scope t b e = eqb (block_of t e) b || above t (block_of t e) b

-- Entry e is in block b's scope, and its number is x.
abbrev pub in_chain : Table → ℕ → ℕ → ℕ → Bool
in_chain t b x e = in_scope t b e && eqb (get_or (entries t) e 0) x

-- The entries of block b's scope from e₀ on are chained upward by their numbers, of which each has a head. Whatever is above a block
-- has later entries, so the nearest come first. Entry e stands at index e + 1, which is how the links name it.
pub record Open (t : Table) (b e₀ : ℕ) (heads nexts : List ℕ) : Type 0 where
  pub heads_wide : highest_number t < length heads
  pub nexts_length : length nexts ≡ suc limit
  pub head_is : (x : ℕ) → x < length heads → get_or heads x 0 ≡ link (in_chain t b x) e₀ (bound_count t)
  pub next_is : (e : ℕ) → e₀ ≤ e → e < bound_count t → in_scope t b e ≡ true
      → get_or nexts (suc e) 0 ≡ link (in_chain t b (get_or (entries t) e 0)) (suc e) (bound_count t)
