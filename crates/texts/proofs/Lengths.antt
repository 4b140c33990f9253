-- How many digits a number has.
-- Assumes nothing.
use mathlib.Core.Path.{◌≡◌}
use Prim.Native.Nat.{ℕ, zero, suc, ◌+◌, ◌*◌, ◌/◌, ◌^◌, ◌≤◌, ◌<◌}
use native.Mathlib.Nat.{pow-succ'}
use native.Mathlib.Omega.{arith}
use lib.Dec.{ltb}
use lib.ListN.{length}
use borrow.Author.Tests.{ltb-true, ltb-false}
use Rattle.lists.specs.Choice.{Is, is_true, is_false, look}
use Rattle.texts.specs.Numerals.{digits}
use Rattle.texts.proofs.Numerals.{by_tenths, length_below_ten, length_step}
use Rattle.texts.specs.Bounds.{number_bound}

-- at least one
pub some_digit : (x : ℕ) → 1 ≤ length (digits x)
some_digit = by_tenths (λ x. 1 ≤ length (digits x)) (λ x h. omega (arith, length_below_ten x h)) (λ x h tenth. omega (arith, length_step x h))

-- a power of ten is at least one
ten_up : (k : ℕ) → 1 ≤ 10 ^ k
ten_up zero = omega arith
ten_up (suc k) = omega (arith, pow-succ' 10 k, ten_up k)

-- from the k-th power of ten on and below the next: one digit more than k
pub digits_at : (k x : ℕ) → 10 ^ k ≤ x → x < 10 * 10 ^ k → length (digits x) ≡ k + 1
digits_at zero x l h = length_below_ten x (omega arith)
digits_at (suc k) x l h =
    let p : 10 ^ suc k ≡ 10 * 10 ^ k = pow-succ' 10 k in
    let up : 1 ≤ 10 ^ k = ten_up k in
    let tenth : length (digits (x / 10)) ≡ k + 1 = digits_at k (x / 10) (omega arith) (omega arith) in
    omega (arith, length_step x (omega arith))

-- at most one digit more below ten times the bound
next_bound : (k bound : ℕ) → ((x : ℕ) → x < bound → length (digits x) ≤ k) → (x : ℕ) → x < 10 * bound → length (digits x) ≤ suc k
next_bound k bound below x h = go (look (ltb x 10))
  where
    go : Is (ltb x 10) → length (digits x) ≤ suc k
    go (is_true t) = omega (arith, length_below_ten x (ltb-true x 10 t))
    go (is_false t) = let l : 10 ≤ x = ltb-false x 10 t in omega (arith, length_step x l, below (x / 10) (omega arith))

-- below the k-th power of ten, at most k digits
pub at_most_digits : (k x : ℕ) → x < 10 ^ suc k → length (digits x) ≤ suc k
at_most_digits zero x h = omega (arith, length_below_ten x (rw (pow-succ' 10 0) at h))
at_most_digits (suc k) x h = next_bound (suc k) (10 ^ suc k) (at_most_digits k) x (rw (pow-succ' 10 (suc k)) at h)

pub at_most_five : (x : ℕ) → x < 100000 → length (digits x) ≤ 5
at_most_five x h = at_most_digits 4 x h

pub at_most_six : (x : ℕ) → x < number_bound → length (digits x) ≤ 6
at_most_six x h = at_most_digits 5 x h

-- a number of 64 bits
pub at_most_twenty : (x : ℕ) → x ≤ 18446744073709551615 → length (digits x) ≤ 20
at_most_twenty x h = at_most_digits 19 x (omega arith)
