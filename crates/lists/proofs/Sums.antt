-- Sums in two ways: over rows and over columns, and of how often each number stands in a list.
-- Assumes nothing.
use mathlib.Core.Path.{◌≡◌, refl, sym, ◌∙◌, ap}
use mathlib.Core.Bool.{Bool, true}
use mathlib.Core.List.{List, [], ◌∷◌, ◌++◌}
use Prim.Native.Nat.{ℕ, zero, suc, ◌+◌, ◌≤◌, ◌<◌}
use native.Mathlib.Omega.{arith}
use native.Mathlib.Nat.{not-suc-le-zero}
use lib.Dec.{eqb, ltb}
use lib.ListN.{length}
use borrow.Author.Tests.{eqb-true, eqb-false, ne_eqb, ltb-true, ltb-false}
use Rattle.lists.specs.Choice.{pick, pick_yes, pick_no, Is, is_true, is_false, look}
use Rattle.lists.specs.Members.{mem, distinct, times, maximum}
use Rattle.lists.specs.Parts.{sum}
use Rattle.lists.proofs.Members.{mem_left, mem_right, mem_head, mem_tail, times_zero, times_positive, times_at_most, maximum_ge}
use Rattle.lists.proofs.Parts.{sum_mono, sum_add, sum_zero, pick_le}

pub sum_swap : (f : ℕ → ℕ → ℕ) (n m : ℕ) → sum (λ i. sum (f i) m) n ≡ sum (λ j. sum (λ i. f i j) n) m
unfolding sum
sum_swap f zero m = sym (sum_zero (λ j. 0) m (λ j h. refl))
sum_swap f (suc n) m =
    ap (λ (s : ℕ). s + sum (f n) m) (sum_swap f n m) ∙ sym (sum_add (λ j. sum (λ i. f i j) n) (f n) m)

pub sum_ones : (f : ℕ → ℕ) (n : ℕ) → ((i : ℕ) → i < n → f i ≡ 1) → sum f n ≡ n
unfolding sum
sum_ones f zero h = refl
sum_ones f (suc n) h = omega (arith, sum_ones f n (λ i l. h i (omega arith)), h n (omega arith))

-- one of whose terms alone is not 0
module _ (y v : ℕ) where
  sum_none : (n : ℕ) → n ≤ y → sum (λ i. pick (eqb i y) v 0) n ≡ 0
  sum_none n h = sum_zero _ n (λ i l. pick_no {A = ℕ} _ _ _ (ne_eqb i y (λ e. omega arith)))

  pub sum_single : (n : ℕ) → y < n → sum (λ i. pick (eqb i y) v 0) n ≡ v
  unfolding sum
  sum_single zero h = absurd (not-suc-le-zero h)
  sum_single (suc n) h = go (look (eqb n y)) (sum_single n)
    where
      go : Is (eqb n y) → (y < n → sum (λ i. pick (eqb i y) v 0) n ≡ v) → sum (λ i. pick (eqb i y) v 0) n + pick (eqb n y) v 0 ≡ v
      go (is_true e) next =
          let q : n ≡ y = eqb-true n y e in omega (arith, sum_none n (omega arith), pick_yes {A = ℕ} (eqb n y) v 0 e)
      go (is_false e) next =
          let q : n ≡ y → ⊥ = eqb-false n y e in omega (arith, next (omega arith), pick_no {A = ℕ} (eqb n y) v 0 e)

  pub sum_at_most : (n : ℕ) → sum (λ i. pick (eqb i y) v 0) n ≤ v
  sum_at_most n = go (look (ltb y n))
    where
      go : Is (ltb y n) → sum (λ i. pick (eqb i y) v 0) n ≤ v
      go (is_true t) = omega (arith, sum_single n (ltb-true y n t))
      go (is_false t) = omega (arith, sum_none n (ltb-false y n t))

-- a list of numbers below n is as long as they stand in it often
pub sum_times : (xs : List ℕ) (n : ℕ) → ((x : ℕ) → mem x xs ≡ true → x < n) → sum (λ i. times i xs) n ≡ length xs
unfolding times
sum_times [] n h = sum_zero _ n (λ i l. refl)
sum_times (y ∷ ys) n h =
    sum_add (λ i. pick (eqb i y) 1 0) (λ i. times i ys) n
    ∙ omega (arith, sum_single y 1 n (h y (mem_head y ys)), sum_times ys n (λ x m. h x (mem_tail x y ys m)))

-- at most one for each number
pub ones_le : (p : ℕ → Bool) (n : ℕ) → sum (λ x. pick (p x) 1 0) n ≤ n
ones_le p n =
    omega (arith, sum_mono (λ x. pick (p x) 1 0) (λ x. 1) n (λ x h. pick_le (p x) 1), sum_ones (λ x. 1) n (λ x h. refl))

-- Numbers of which none stands twice are no more than those that they are taken from,
module _ (xs ys : List ℕ) (once : distinct xs ≡ true) (among : (x : ℕ) → mem x xs ≡ true → mem x ys ≡ true) where
  times_among : (x : ℕ) → times x xs ≤ times x ys
  times_among x = go (look (mem x xs))
    where
      go : Is (mem x xs) → times x xs ≤ times x ys
      go (is_true m) = omega (arith, times_at_most x xs once, times_positive x ys (among x m))
      go (is_false m) = omega (arith, times_zero x xs m)

  pub distinct_few : length xs ≤ length ys
  distinct_few =
      let top : ℕ = suc (maximum (xs ++ ys)) in
      let a = sum_times xs top (λ x m. omega (arith, maximum_ge (xs ++ ys) x (mem_left x xs ys m))) in
      let b = sum_times ys top (λ x m. omega (arith, maximum_ge (xs ++ ys) x (mem_right x xs ys m))) in
      omega (arith, a, b, sum_mono (λ x. times x xs) (λ x. times x ys) top (λ x h. times_among x))

-- and no more than the numbers below n, if they are among these.
pub distinct_below : (xs : List ℕ) (n : ℕ) → distinct xs ≡ true → ((x : ℕ) → mem x xs ≡ true → x < n) → length xs ≤ n
distinct_below xs n once low =
    omega (arith, sum_times xs n low, sum_mono (λ x. times x xs) (λ x. 1) n (λ x h. times_at_most x xs once), sum_ones (λ x. 1) n (λ x h. refl))
