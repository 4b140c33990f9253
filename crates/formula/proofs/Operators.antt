-- The truth tables of operators: the numbers below 16 are the Boolean functions of two arguments, each exactly once.
-- Assumes nothing.
use mathlib.Core.Path.{◌≡◌}
use mathlib.Core.Bool.{Bool, true, false, not, ◌&&◌, ◌||◌, xor, beq}
use Prim.Native.Nat.{ℕ, ◌+◌, ◌*◌, ◌/◌, ◌%◌, ◌^◌, ◌<◌}
use native.Mathlib.Omega.{arith}
use lib.Dec.{eqb}
use borrow.Author.Tests.{eqb-true, eqb-false}
use Rattle.lists.specs.Choice.{Is, is_true, is_false, look}
use Rattle.formula.specs.Truth.{bit, digit, operator_value}

-- The truth table of a function: bit (2 × left + right) is its value at left and right.
unfoldable pub table_for : (Bool → Bool → Bool) → ℕ
table_for g = digit (g false false) + 2 * digit (g false true) + 4 * digit (g true false) + 8 * digit (g true true)

digit_lt : (b : Bool) → digit b < 2
unfolding digit
digit_lt true = omega arith
digit_lt false = omega arith

-- A digit is 1 exactly if it stands for true.
digit_true : (n : ℕ) (b : Bool) → n ≡ digit b → eqb n 1 ≡ b
unfolding digit
digit_true n true h = rw h
digit_true n false h = rw h

bit_digit : (f k : ℕ) → digit (bit f k) ≡ f / 2 ^ k % 2
unfolding bit digit
bit_digit f k = go (look (eqb (f / 2 ^ k % 2) 1))
  where
    go : Is (eqb (f / 2 ^ k % 2) 1) → digit (eqb (f / 2 ^ k % 2) 1) ≡ f / 2 ^ k % 2
    go (is_true e) = let d : f / 2 ^ k % 2 ≡ 1 = eqb-true (f / 2 ^ k % 2) 1 e in rw d
    go (is_false e) = rw e (let n : f / 2 ^ k % 2 ≡ 1 → ⊥ = eqb-false (f / 2 ^ k % 2) 1 e in omega arith)

module _ (g : Bool → Bool → Bool) where
  digit_at : (l r : Bool)
      → digit (g false false) < 2 → digit (g false true) < 2 → digit (g true false) < 2 → digit (g true true) < 2
      → table_for g / 2 ^ (2 * digit l + digit r) % 2 ≡ digit (g l r)
  unfolding table_for digit
  digit_at false false a b c d = omega arith
  digit_at false true a b c d = omega arith
  digit_at true false a b c d = omega arith
  digit_at true true a b c d = omega arith

  -- Every function of two arguments is an operator.
  pub operator_of : (l r : Bool) → operator_value (table_for g) l r ≡ g l r
  unfolding operator_value bit
  operator_of l r =
      digit_true _ (g l r)
      (digit_at l r (digit_lt (g false false)) (digit_lt (g false true)) (digit_lt (g true false)) (digit_lt (g true true)))

  pub table_for_lt : table_for g < 16
  unfolding table_for
  table_for_lt =
      omega (arith, digit_lt (g false false), digit_lt (g false true), digit_lt (g true false), digit_lt (g true true))

-- A number below 16 from its four binary digits.
binary : (t : ℕ) → t < 16 → t / 2 ^ 0 % 2 + 2 * (t / 2 ^ 1 % 2) + 4 * (t / 2 ^ 2 % 2) + 8 * (t / 2 ^ 3 % 2) ≡ t
binary t h =
    let d : t / 4 ≡ t / 2 / 2 = omega arith in
    let e : t / 8 ≡ t / 4 / 2 = omega arith in
    let k : t / 8 % 2 ≡ t / 8 = omega arith in omega arith

-- Every truth table is that of its own operator.
pub table_of_lem : (t : ℕ) → t < 16 → table_for (operator_value t) ≡ t
unfolding operator_value table_for digit
table_of_lem t h = simp bit_digit (binary t h)

-- "so and is 8, or 14, xor 6, biconditional 9, left implies right 11."
pub and_is_8 : (l r : Bool) → operator_value 8 l r ≡ (l && r)
unfolding table_for digit
and_is_8 = operator_of ◌&&◌

pub or_is_14 : (l r : Bool) → operator_value 14 l r ≡ (l || r)
unfolding table_for digit
or_is_14 = operator_of ◌||◌

pub xor_is_6 : (l r : Bool) → operator_value 6 l r ≡ xor l r
unfolding table_for digit xor
xor_is_6 = operator_of xor

pub biconditional_is_9 : (l r : Bool) → operator_value 9 l r ≡ beq l r
unfolding table_for digit
biconditional_is_9 = operator_of beq

pub implies_is_11 : (l r : Bool) → operator_value 11 l r ≡ (not l || r)
unfolding table_for digit
implies_is_11 = operator_of (λ l r. not l || r)
