-- What is named where a node was, in words whose operands and bodies are lower: the first argument of `named_for` says nothing, what is
-- named stays, and an empty block is named as its body is.
-- Assumes nothing.
use mathlib.Core.Path.{◌≡◌, refl, sym, ◌∙◌, ap}
use mathlib.Core.Bool.{true, false}
use mathlib.Core.List.{List}
use Prim.Native.Nat.{ℕ, zero, suc, ◌≤◌, ◌<◌}
use native.Mathlib.Omega.{arith}
use lib.Dec.{eqb}
use borrow.Author.Tests.{not-false}
use Rattle.lists.specs.Choice.{pick_yes, pick_no, Is, is_true, is_false, look, and_left}
use Rattle.formula.specs.Words.{node_count, field, is_block_kind, is_empty_block, words_at}
use Rattle.acceptance.specs.Accepted.{LowerOperands}
use Rattle.empty_blocks.specs.Removal.{stays, left_below, named_for, new_index}
use Rattle.empty_blocks.specs.Laws.{NewIndexRule}
use Rattle.empty_blocks.proofs.Words.{body_below}

-- a node that does not stay is a block
pub gone_block : (ws : List ℕ) (i : ℕ) → stays ws i ≡ false → is_block_kind (field ws i 0) ≡ true
unfolding stays is_empty_block
gone_block ws i s = and_left (is_block_kind (field ws i 0)) (eqb (field ws i 2) 0) (not-false _ s)

-- a node that stays is named itself, whatever the bound
pub named_itself : (ws : List ℕ) (f i : ℕ) → stays ws i ≡ true → named_for f ws i ≡ i
unfolding named_for
named_itself ws zero i s = refl
named_itself ws (suc f) i s = pick_yes _ _ _ s

pub named_stays : (ws : List ℕ) (i : ℕ) → stays ws i ≡ true → new_index ws i ≡ left_below ws i
unfolding new_index
named_stays ws i s = ap (left_below ws) (named_itself ws i i s)

module _ (ws : List ℕ) (lower : LowerOperands ws) where
  -- the body of an empty block is lower
  pub body_lower : (i : ℕ) → i < node_count ws → stays ws i ≡ false → field ws i 3 < i
  body_lower i h s = body_below i (words_at ws i) (lower i h) (gone_block ws i s)

  -- What holds of every node that stays, and of an empty block if it holds of its body, holds of every node.
  module _ (P : ℕ → Type 0) (at_left : (i : ℕ) → i < node_count ws → stays ws i ≡ true → P i)
      (at_empty : (i : ℕ) → i < node_count ws → stays ws i ≡ false → P (field ws i 3) → P i) where
    by_bodies_below : (m i : ℕ) → i < m → i < node_count ws → P i
    by_bodies_below zero i l h = absurd (omega arith)
    by_bodies_below (suc m) i l h = go (look (stays ws i)) (by_bodies_below m)
      where
        go : Is (stays ws i) → ((j : ℕ) → j < m → j < node_count ws → P j) → P i
        go (is_true s) below = at_left i h s
        go (is_false s) below =
            let b : field ws i 3 < i = body_lower i h s in at_empty i h s (below (field ws i 3) (omega arith) (omega arith))

    pub by_bodies : (i : ℕ) → i < node_count ws → P i
    by_bodies i h = by_bodies_below (suc i) i (omega arith) h

  -- The bound says nothing.

  named_deeper : (i : ℕ) → stays ws i ≡ false → i < node_count ws
      → ((f g : ℕ) → field ws i 3 ≤ f → field ws i 3 ≤ g → named_for f ws (field ws i 3) ≡ named_for g ws (field ws i 3))
      → (f g : ℕ) → i ≤ f → i ≤ g → named_for f ws i ≡ named_for g ws i
  unfolding named_for
  named_deeper i s h below zero g k l = absurd (omega (arith, body_lower i h s))
  named_deeper i s h below (suc f) zero k l = absurd (omega (arith, body_lower i h s))
  named_deeper i s h below (suc f) (suc g) k l =
      let b : field ws i 3 < i = body_lower i h s in pick_no _ _ _ s ∙ below f g (omega arith) (omega arith) ∙ sym (pick_no _ _ _ s)

  pub named_bound : (f g i : ℕ) → i ≤ f → i ≤ g → i < node_count ws → named_for f ws i ≡ named_for g ws i
  named_bound f g i k l h =
      by_bodies (λ j. (f g : ℕ) → j ≤ f → j ≤ g → named_for f ws j ≡ named_for g ws j)
      (λ j _ s f g _ _. named_itself ws f j s ∙ sym (named_itself ws g j s))
      (λ j b s below. named_deeper j s b below)
      i h f g k l

  -- An empty block is named as its body is.

  pub named_below_lem : (i : ℕ) → i < node_count ws → stays ws i ≡ false → named_for i ws i ≡ named_for (field ws i 3) ws (field ws i 3)
  unfolding named_for
  named_below_lem i h s =
      let b : field ws i 3 < i = body_lower i h s in
      named_bound i (suc i) i (omega arith) (omega arith) h
      ∙ pick_no _ _ _ s
      ∙ named_bound i (field ws i 3) (field ws i 3) (omega arith) (omega arith) (omega arith)

  pub named_body : (i : ℕ) → i < node_count ws → stays ws i ≡ false → new_index ws i ≡ new_index ws (field ws i 3)
  unfolding new_index
  named_body i h s = ap (left_below ws) (named_below_lem i h s)

  -- What is named stays, and is no higher than the node in whose place it is named.

  pub named_left : (i : ℕ) → i < node_count ws → stays ws (named_for i ws i) ≡ true
  named_left i h =
      by_bodies (λ j. stays ws (named_for j ws j) ≡ true)
      (λ j _ s. rw (named_itself ws j j s) s)
      (λ j l s below. rw (named_below_lem j l s) below)
      i h

  pub named_no_higher : (i : ℕ) → i < node_count ws → named_for i ws i ≤ i
  named_no_higher i h =
      by_bodies (λ j. named_for j ws j ≤ j)
      (λ j _ s. omega (arith, named_itself ws j j s))
      (λ j l s below. omega (arith, named_below_lem j l s, body_lower j l s))
      i h

pub new_indices : NewIndexRule
new_indices ws lower = record { in_order = λ i _. named_stays ws i; as_body = named_body ws lower }
