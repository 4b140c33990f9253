-- Laws of `enclosing`, the nearest block above a node of a tree.
-- Assumes nothing.
use mathlib.Core.Path.{◌≡◌}
use mathlib.Core.Bool.{Bool, true, ◌&&◌}
use mathlib.Core.Logic.{◌⊎◌, inl, inr}
use Prim.Native.Nat.{ℕ, suc, ◌≤◌, ◌<◌}
use native.Mathlib.Omega.{arith}
use lib.Dec.{eqb, ltb}
use borrow.Author.Tests.{ltb-true, ltb-false, eqb-true, eqb-false}
use Rattle.lists.specs.Choice.{pick, Is, is_true, is_false, look, and_left, and_right, and_both}
use Rattle.lists.specs.Members.{mem}
use Rattle.lists.proofs.Search.{lowest_le, lowest_holds, lowest_least}
use Rattle.formula.specs.Node.{Table, operands, is_block}
use Rattle.formula.specs.Tree.{Tree}
use Rattle.prenex_form.specs.Scope.{above}
use Rattle.prenex_form.proofs.Paths.{above_higher, above_line, nearest_root, nearest_step}
use Rattle.arrays.specs.Held.{enclosing}

-- node b is a block above node i
abbrev encloses : Table → ℕ → ℕ → Bool
encloses t i b = is_block (t.node b) && above t b i

module _ (t : Table) (tree : Tree t) where
  pub enclosing_le : (i : ℕ) → enclosing t i ≤ t.size
  unfolding enclosing
  enclosing_le i = lowest_le (encloses t i) t.size

  pub enclosing_root : (i : ℕ) → suc i ≡ t.size → enclosing t i ≡ t.size
  unfolding enclosing
  enclosing_root i h = nearest_root t tree (λ b. is_block (t.node b)) i h

  -- the parent, if it is a block, or else the block that encloses the parent
  pub enclosing_step : (j i : ℕ) → j < t.size → mem i (operands (t.node j)) ≡ true
      → enclosing t i ≡ pick (is_block (t.node j)) j (enclosing t j)
  unfolding enclosing
  enclosing_step j i h m = nearest_step t tree (λ b. is_block (t.node b)) j i h m

  holds : (i : ℕ) → enclosing t i < t.size → encloses t i (enclosing t i) ≡ true
  unfolding enclosing
  holds i h = lowest_holds (encloses t i) t.size h

  pub enclosing_block : (i : ℕ) → enclosing t i < t.size → is_block (t.node (enclosing t i)) ≡ true
  enclosing_block i h = and_left _ (above t (enclosing t i) i) (holds i h)

  pub enclosing_above : (i : ℕ) → enclosing t i < t.size → above t (enclosing t i) i ≡ true
  enclosing_above i h = and_right (is_block (t.node (enclosing t i))) _ (holds i h)

  pub enclosing_higher : (i : ℕ) → i < t.size → i < enclosing t i
  enclosing_higher i h = go (look (ltb (enclosing t i) t.size))
    where
      go : Is (ltb (enclosing t i) t.size) → i < enclosing t i
      go (is_true e) = above_higher t tree (enclosing t i) i h (enclosing_above i (ltb-true _ _ e))
      go (is_false e) = omega (arith, ltb-false (enclosing t i) t.size e)

  -- no block above a node is nearer
  pub enclosing_least : (b i : ℕ) → b < t.size → is_block (t.node b) ≡ true → above t b i ≡ true → enclosing t i ≤ b
  unfolding enclosing
  enclosing_least b i h e a = lowest_least (encloses t i) t.size b h (and_both _ _ e a)

  -- every other block above a node is above that which encloses it
  pub enclosing_next : (b i : ℕ) → i < t.size → b < t.size → is_block (t.node b) ≡ true → above t b i ≡ true
      → (b ≡ enclosing t i) ⊎ (above t b (enclosing t i) ≡ true)
  enclosing_next b i k h e a = go (look (eqb b (enclosing t i)))
    where
      l : enclosing t i ≤ b
      l = enclosing_least b i h e a

      go : Is (eqb b (enclosing t i)) → (b ≡ enclosing t i) ⊎ (above t b (enclosing t i) ≡ true)
      go (is_true q) = inl (eqb-true _ _ q)
      go (is_false q) =
          let n = eqb-false b (enclosing t i) q in
          let s : enclosing t i < b = omega (arith, l) in
          inr (above_line t tree (enclosing t i) b i k (enclosing_above i (omega (arith, s))) a s)
