-- Counting the uses of nodes: each written node but the root is an operand in use of one written node, once.
-- Assumes nothing.
use mathlib.Core.Path.{◌≡◌, refl, sym, ◌∙◌, ap}
use mathlib.Core.Bool.{Bool, true, false}
use mathlib.Core.List.{List, [], ◌∷◌, map}
use Prim.Native.Nat.{ℕ, suc, ◌+◌, ◌-◌, ◌≤◌, ◌<◌}
use native.Mathlib.Omega.{arith}
use lib.Dec.{eqb}
use borrow.Author.Tests.{eqb-true, eqb-false}
use Rattle.lists.specs.Choice.{pick, pick_yes, pick_no, Is, is_true, is_false, look, clash, absent}
use Rattle.lists.specs.Members.{mem, times}
use Rattle.lists.specs.Parts.{sum}
use Rattle.lists.proofs.Members.{mem_head, mem_tail, times_zero, times_positive}
use Rattle.lists.proofs.Parts.{sum_cong, sum_mono, sum_add, sum_zero, term_le, pick_le}
use Rattle.lists.proofs.Sums.{sum_swap, sum_single}
use Rattle.formula.specs.Node.{Node, constant, variable, negation, operator, block, Table, operands}
use Rattle.formula.specs.Tree.{Tree, times_named}
use Rattle.qcir_form.specs.Rows.{RowKind, constant_row, left_row, right_row, and_row, xor_row, row}
use Rattle.qcir_form.specs.File.{row_operands, used_operands, written}
use Rattle.qcir_form.proofs.Written.{used_lower, written_up}

-- How many elements pass the test.
unfoldable pub tally : (ℕ → Bool) → List ℕ → ℕ
tally p [] = 0
tally p (x ∷ xs) = pick (p x) 1 0 + tally p xs

-- how often x stands among the images of a list
pub tally_images : (f : ℕ → ℕ) (p : ℕ → Bool) (x : ℕ) (xs : List ℕ) → ((a : ℕ) → mem a xs ≡ true → p a ≡ eqb x (f a))
    → times x (map f xs) ≡ tally p xs
unfolding tally times
tally_images f p x [] h = refl
tally_images f p x (y ∷ ys) h =
    omega (arith, ap (λ b. pick {A = ℕ} b 1 0) (h y (mem_head y ys)), tally_images f p x ys (λ a m. h a (mem_tail a y ys m)))

-- one number, and the others
one_more : (same p q : Bool) (k : ℕ) → (same ≡ true → p ≡ q) → pick p (pick same 1 0 + k) 0 ≡ pick same (pick q 1 0) 0 + pick p k 0
unfolding pick
one_more true true true k h = refl
one_more true true false k h = clash refl (h refl)
one_more true false true k h = clash (h refl) refl
one_more true false false k h = refl
one_more false true q k h = refl
one_more false false q k h = refl

none_picked : (b : Bool) (k : ℕ) → k ≡ 0 → pick b k 0 ≡ 0
none_picked b k e = let l = pick_le b k in omega arith

-- a list of numbers below n, counted number by number
tally_sum : (p : ℕ → Bool) (xs : List ℕ) (n : ℕ) → ((a : ℕ) → mem a xs ≡ true → a < n) → tally p xs ≡ sum (λ a. pick (p a) (times a xs) 0) n
unfolding tally times
tally_sum p [] n h = sym (sum_zero _ n (λ a l. none_picked (p a) 0 refl))
tally_sum p (y ∷ ys) n h =
    let rest = tally_sum p ys n (λ a m. h a (mem_tail a y ys m)) in
    let here = sum_single y (pick (p y) 1 0) n (h y (mem_head y ys)) in
    let parts = sum_add (λ a. pick (eqb a y) (pick (p y) 1 0) 0) (λ a. pick (p a) (times a ys) 0) n in
    let all = sum_cong (λ a. pick (p a) (pick (eqb a y) 1 0 + times a ys) 0)
    (λ a. pick (eqb a y) (pick (p y) 1 0) 0 + pick (p a) (times a ys) 0) n
    (λ a l. one_more (eqb a y) (p a) (p y) (times a ys) (λ e. ap p (eqb-true a y e))) in
    omega arith

row_times : (k : RowKind) (c a b : ℕ) → times c (row_operands k a b) ≤ times c (a ∷ b ∷ [])
unfolding row_operands times
row_times constant_row c a b = omega arith
row_times left_row c a b = omega arith
row_times right_row c a b = omega arith
row_times and_row c a b = omega arith
row_times xor_row c a b = omega arith

used_times : (nd : Node) (c : ℕ) → times c (used_operands nd) ≤ times c (operands nd)
unfolding used_operands operands times
used_times (constant v) c = omega arith
used_times (variable x) c = omega arith
used_times (negation a) c = omega arith
used_times (operator f a b) c = row_times (row f).kind c a b
used_times (block q xs a) c = omega arith

module _ (t : Table) (tree : Tree t) where
  -- how often written nodes use node a
  abbrev uses : ℕ → ℕ
  uses a = sum (λ j. pick (written t j) (times a (used_operands (t.node j))) 0) t.size

  uses_root : uses (t.size - 1) ≡ 0
  uses_root =
      sum_zero _ t.size (λ j h. none_picked (written t j) _ (times_zero (t.size - 1) (used_operands (t.node j)) (absent _ (λ m.
      let l : t.size - 1 < j = used_lower t tree j (t.size - 1) h m in omega arith))))

  uses_once : (a : ℕ) → suc a < t.size → written t a ≡ true → uses a ≡ 1
  unfolding times_named
  uses_once a h w =
      let most = sum_mono (λ j. pick (written t j) (times a (used_operands (t.node j))) 0) (λ j. times a (operands (t.node j))) t.size
      (λ j l. omega (arith, pick_le (written t j) (times a (used_operands (t.node j))), used_times (t.node j) a)) in
      let u = written_up t tree a h w in
      let j : ℕ = u.0 in
      let some = term_le (λ j. pick (written t j) (times a (used_operands (t.node j))) 0) t.size j u.1 in
      omega (arith, tree.once a h, pick_yes {A = ℕ} (written t j) (times a (used_operands (t.node j))) 0 u.2, times_positive a (used_operands (t.node j)) u.3)

  module _ (p : ℕ → Bool) (only : (a : ℕ) → a < t.size → p a ≡ true → written t a ≡ true) where
    -- the operands in use of node j, number by number
    used_by : (j : ℕ) → j < t.size
        → pick (written t j) (tally p (used_operands (t.node j))) 0
        ≡ sum (λ a. pick (p a) (pick (written t j) (times a (used_operands (t.node j))) 0) 0) t.size
    used_by j h = go (look (written t j))
      where
        go : Is (written t j)
            → pick (written t j) (tally p (used_operands (t.node j))) 0
            ≡ sum (λ a. pick (p a) (pick (written t j) (times a (used_operands (t.node j))) 0) 0) t.size
        go (is_true w) =
            pick_yes {A = ℕ} _ _ _ w
            ∙ tally_sum p (used_operands (t.node j)) t.size (λ a m. let l : a < j = used_lower t tree j a h m in omega arith)
            ∙ sum_cong _ _ t.size (λ a l. ap (λ k. pick (p a) k 0) (sym (pick_yes {A = ℕ} _ _ _ w)))
        go (is_false w) =
            pick_no {A = ℕ} _ _ _ w
            ∙ sym (sum_zero _ t.size (λ a l. none_picked (p a) _ (pick_no {A = ℕ} _ _ _ w)))

    -- the uses of node a
    used_at : (a : ℕ) → a < t.size
        → sum (λ j. pick (p a) (pick (written t j) (times a (used_operands (t.node j))) 0) 0) t.size
        + pick (eqb a (t.size - 1)) (pick (p (t.size - 1)) 1 0) 0 ≡ pick (p a) 1 0
    used_at a h = go (look (p a)) (look (eqb a (t.size - 1)))
      where
        terms : p a ≡ true → sum (λ j. pick (p a) (pick (written t j) (times a (used_operands (t.node j))) 0) 0) t.size ≡ uses a
        terms e = sum_cong _ _ t.size (λ j l. pick_yes {A = ℕ} _ _ _ e)

        go : Is (p a) → Is (eqb a (t.size - 1))
            → sum (λ j. pick (p a) (pick (written t j) (times a (used_operands (t.node j))) 0) 0) t.size
            + pick (eqb a (t.size - 1)) (pick (p (t.size - 1)) 1 0) 0 ≡ pick (p a) 1 0
        go (is_true e) (is_true q) =
            let same : a ≡ t.size - 1 = eqb-true a (t.size - 1) q in
            let z : uses a ≡ 0 = ap uses same ∙ uses_root in
            omega (arith, terms e, z, pick_yes {A = ℕ} _ (pick (p (t.size - 1)) 1 0) 0 q, ap (λ k. pick {A = ℕ} (p k) 1 0) same)
        go (is_true e) (is_false q) =
            let other : a ≡ t.size - 1 → ⊥ = eqb-false a (t.size - 1) q in
            let o : uses a ≡ 1 = uses_once a (omega arith) (only a h e) in
            omega (arith, terms e, o, pick_no {A = ℕ} _ (pick (p (t.size - 1)) 1 0) 0 q, pick_yes {A = ℕ} (p a) 1 0 e)
        go (is_false e) (is_true q) =
            let same : a ≡ t.size - 1 = eqb-true a (t.size - 1) q in
            omega (
              arith,
              sum_zero (λ j. pick (p a) (pick (written t j) (times a (used_operands (t.node j))) 0) 0) t.size (λ j l. pick_no {A = ℕ} _ _ _ e),
              pick_yes {A = ℕ} _ (pick (p (t.size - 1)) 1 0) 0 q,
              ap (λ k. pick {A = ℕ} (p k) 1 0) same,
            )
        go (is_false e) (is_false q) =
            omega (
              arith,
              sum_zero (λ j. pick (p a) (pick (written t j) (times a (used_operands (t.node j))) 0) 0) t.size (λ j l. pick_no {A = ℕ} _ _ _ e),
              pick_no {A = ℕ} _ (pick (p (t.size - 1)) 1 0) 0 q,
              pick_no {A = ℕ} (p a) 1 0 e,
            )

    -- The nodes that pass, all of them written, are the operands in use that do, and the root if it does.
    pub uses_all : sum (λ j. pick (written t j) (tally p (used_operands (t.node j))) 0) t.size + pick (p (t.size - 1)) 1 0
        ≡ sum (λ a. pick (p a) 1 0) t.size
    uses_all =
        let n : ℕ = t.size in
        let term : ℕ → ℕ → ℕ = λ j a. pick (p a) (pick (written t j) (times a (used_operands (t.node j))) 0) 0 in
        let some : 0 < n = tree.nonempty in
        let by_user = sum_cong (λ j. pick (written t j) (tally p (used_operands (t.node j))) 0) (λ j. sum (term j) n) n used_by in
        let swapped = sum_swap term n n in
        let root = sum_single (n - 1) (pick (p (n - 1)) 1 0) n (omega arith) in
        let both = sum_add (λ a. sum (λ j. term j a) n) (λ a. pick (eqb a (n - 1)) (pick (p (n - 1)) 1 0) 0) n in
        let all = sum_cong (λ a. sum (λ j. term j a) n + pick (eqb a (n - 1)) (pick (p (n - 1)) 1 0) 0) (λ a. pick (p a) 1 0) n used_at in
        omega arith
