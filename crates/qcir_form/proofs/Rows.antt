-- The rule of the sixteen rows: each has its operator's value. A test is computed over the whole table, and gives the rule at each row.
-- Assumes nothing.
use mathlib.Core.Path.{◌≡◌, refl}
use mathlib.Core.Bool.{Bool, true, false, not, ◌&&◌, ◌||◌, xor, beq}
use Prim.Native.Nat.{ℕ, ◌<◌}
use native.Mathlib.Omega.{arith}
use lib.Dec.{eqb}
use borrow.Author.Tests.{not-true}
use Rattle.lists.specs.Choice.{clash, and_left, and_right, or_cases, or_neither_left, or_neither_right}
use Rattle.lists.specs.Members.{all}
use Rattle.lists.specs.Parts.{numbers}
use Rattle.lists.proofs.Members.{all_mem}
use Rattle.lists.proofs.Parts.{mem_numbers}
use Rattle.formula.specs.Truth.{bit, digit, operator_value}
use Rattle.qcir_form.specs.Rows.{RowKind, constant_row, left_row, right_row, and_row, xor_row, rows, row_in, row, kind_value, row_value, RowRule}

-- What is computed true of every number below 16 is true of each.
below_16 : (p : ℕ → Bool) → all p (numbers 0 16) ≡ true → (f : ℕ) → f < 16 → p f ≡ true
below_16 p test f h = all_mem p (numbers 0 16) f test (mem_numbers 0 16 f (omega arith) (omega arith))

same_value : (a b : Bool) → beq a b ≡ true → a ≡ b
same_value true true h = refl
same_value true false h = clash h refl
same_value false true h = clash h refl
same_value false false h = refl

-- OperatorRow f has its operator's value at one pair of operands, and at each of the four.
right_at : ℕ → Bool → Bool → Bool
right_at f l r = beq (row_value (row f) l r) (operator_value f l r)

right : ℕ → Bool
right f = (right_at f false false && right_at f false true) && (right_at f true false && right_at f true true)

every_row_right : all right (numbers 0 16) ≡ true
unfolding all numbers right right_at row_value kind_value row row_in rows operator_value bit digit xor eqb
every_row_right = refl

right_at_lem : (f : ℕ) (l r : Bool) → right f ≡ true → right_at f l r ≡ true
unfolding right
right_at_lem f false false h = and_left _ (right_at f false true) (and_left (right_at f false false && right_at f false true) _ h)
right_at_lem f false true h = and_right (right_at f false false) _ (and_left (right_at f false false && right_at f false true) _ h)
right_at_lem f true false h = and_left _ (right_at f true true) (and_right (right_at f false false && right_at f false true) _ h)
right_at_lem f true true h = and_right (right_at f true false) _ (and_right (right_at f false false && right_at f false true) _ h)

pub row_rule : RowRule
unfolding right_at
row_rule f h l r = same_value _ _ (right_at_lem f l r (below_16 right every_row_right f h))

-- Only rows of kind `and` have signs on operands.

unfoldable pub signs_operands : RowKind → Bool
signs_operands constant_row = false
signs_operands left_row = false
signs_operands right_row = false
signs_operands and_row = true
signs_operands xor_row = false

plain : ℕ → Bool
plain f = signs_operands (row f).kind || not ((row f).left || (row f).right)

every_row_plain : all plain (numbers 0 16) ≡ true
unfolding all numbers plain signs_operands row row_in rows
every_row_plain = refl

no_signs : (f : ℕ) → f < 16 → signs_operands (row f).kind ≡ false → ((row f).left || (row f).right) ≡ false
unfolding plain
no_signs f h k =
    or_cases (signs_operands (row f).kind) (not ((row f).left || (row f).right)) (below_16 plain every_row_plain f h)
    (λ e. clash e k) (λ e. not-true _ e)

pub left_unsigned : (f : ℕ) → f < 16 → signs_operands (row f).kind ≡ false → (row f).left ≡ false
left_unsigned f h k = or_neither_left (row f).left (row f).right (no_signs f h k)

pub right_unsigned : (f : ℕ) → f < 16 → signs_operands (row f).kind ≡ false → (row f).right ≡ false
right_unsigned f h k = or_neither_right (row f).left (row f).right (no_signs f h k)
