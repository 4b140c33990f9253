-- The words of a node that names only lower nodes: which these are, by its kind, and that it is renumbered by the indices of lower nodes
-- alone.
-- Assumes nothing.
use mathlib.Core.Path.{◌≡◌, refl}
use mathlib.Core.Bool.{Bool, true, false, ◌&&◌, ◌||◌}
use Prim.Native.Nat.{ℕ, ◌<◌, ◌≤◌}
use native.Mathlib.Omega.{arith}
use lib.Dec.{eqb, leb}
use borrow.Author.Tests.{leb-false, lt-leb, eqb-true, eq-eqb}
use Rattle.lists.specs.Choice.{pick, or_neither, or_neither_left, or_neither_right, or_cases}
use Rattle.formula.specs.Words.{is_block_kind}
use Rattle.formula.specs.declared.NodeWords.{NodeWords}
use Rattle.acceptance.specs.Verdict.{forward_reference}
use Rattle.acceptance.proofs.Accepted.{and_when, and_not}
use Rattle.empty_blocks.specs.Removal.{renumbered}

-- A node without refusal 4 names only lower nodes.
module _ (i : ℕ) (w : NodeWords) (low : forward_reference i w ≡ false) where
  abbrev operand_high : Bool
  operand_high = eqb w.kind 3 && leb i w.a

  abbrev side_high : Bool
  side_high = eqb w.kind 4 && (leb i w.b || leb i w.c)

  neither_high : (operand_high || side_high) ≡ false
  unfolding forward_reference
  neither_high = or_neither_left _ (is_block_kind w.kind && leb i w.c) low

  pub operand_below : w.kind ≡ 3 → w.a < i
  operand_below e = leb-false _ _ (and_when _ _ (or_neither_left _ side_high neither_high) (eq-eqb _ _ e))

  sides_below : w.kind ≡ 4 → (leb i w.b || leb i w.c) ≡ false
  sides_below e = and_when _ _ (or_neither_right operand_high _ neither_high) (eq-eqb _ _ e)

  pub left_below_lem : w.kind ≡ 4 → w.b < i
  left_below_lem e = leb-false _ _ (or_neither_left _ (leb i w.c) (sides_below e))

  pub right_below : w.kind ≡ 4 → w.c < i
  right_below e = leb-false _ _ (or_neither_right (leb i w.b) _ (sides_below e))

  pub body_below : is_block_kind w.kind ≡ true → w.c < i
  unfolding forward_reference
  body_below e = leb-false _ _ (and_when _ _ (or_neither_right (operand_high || side_high) _ low) e)

  -- so it names only nodes below a higher number too
  pub lower_than : (n : ℕ) → i ≤ n → forward_reference n w ≡ false
  unfolding forward_reference
  lower_than n h =
      let operand : (eqb w.kind 3 && leb n w.a) ≡ false =
      and_not (eqb w.kind 3) _ (λ k. lt-leb n w.a (omega (arith, operand_below (eqb-true _ _ k)))) in
      let side : (eqb w.kind 4 && (leb n w.b || leb n w.c)) ≡ false =
      and_not _ _ (λ k.
      let e : w.kind ≡ 4 = eqb-true _ _ k in
      or_neither _ _ (lt-leb n w.b (omega (arith, left_below_lem e))) (lt-leb n w.c (omega (arith, right_below e)))) in
      let body : (is_block_kind w.kind && leb n w.c) ≡ false =
      and_not (is_block_kind w.kind) _ (λ k. lt-leb n w.c (omega (arith, body_below k))) in
      or_neither _ _ (or_neither _ _ operand side) body

  -- and any two numberings of the lower nodes that agree give the same
  module _ (f g : ℕ → ℕ) (same : (j : ℕ) → j < i → f j ≡ g j) where
    pick_same : (t : Bool) (x : ℕ) → (t ≡ true → x < i) → pick t (f x) x ≡ pick t (g x) x
    unfolding pick
    pick_same true x h = same x (h refl)
    pick_same false x h = refl

    pub renumbered_same : renumbered f w ≡ renumbered g w
    unfolding renumbered
    renumbered_same =
        let kind = w.kind in
        let a = pick_same (eqb kind 3) w.a (λ t. operand_below (eqb-true _ _ t)) in
        let b = pick_same (eqb kind 4) w.b (λ t. left_below_lem (eqb-true _ _ t)) in
        let c = pick_same (eqb kind 4 || is_block_kind kind) w.c (λ t.
        or_cases (eqb kind 4) (is_block_kind kind) t (λ u. right_below (eqb-true _ _ u)) body_below) in
        rw (a, b, c)

-- With each node at its own index it is as it was.
module _ (w : NodeWords) where
  pick_itself : (t : Bool) (x : ℕ) → pick t x x ≡ x
  unfolding pick
  pick_itself true x = refl
  pick_itself false x = refl

  pub renumbered_itself : renumbered (λ x. x) w ≡ w
  unfolding renumbered
  renumbered_itself =
      let kind = w.kind in
      rw (pick_itself (eqb kind 3) w.a, pick_itself (eqb kind 4) w.b, pick_itself (eqb kind 4 || is_block_kind kind) w.c)
