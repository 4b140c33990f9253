-- "Each of the sixteen operators is a fixed row: a constant, a signed operand, `and` of signed operands or `xor` with signs moved outside,
-- with a sign on the whole" (request S-5).
-- Assumes nothing.
use Rattle.std.specs.Prelude.{Bool, true, false, ◌&&◌, List, [], ◌∷◌, ◌≡◌, ℕ, zero, suc, ◌<◌}
use Rattle.std.specs.Bool.{xor}
use Rattle.formula.specs.Truth.{operator_value}

-- What an operator is written as.
pub data RowKind : Type 0 where
  -- a constant: an `and()` gate
  constant_row : RowKind
  -- a signed operand: no gate
  left_row right_row : RowKind
  -- `and` of signed operands
  and_row : RowKind
  -- `xor`
  xor_row : RowKind

-- A row: the gate kind, and whether the left operand, the right one and the whole have a minus sign.
pub record OperatorRow : Type 0 where
  pub kind : RowKind
  pub left : Bool
  pub right : Bool
  pub whole : Bool

abbrev pub fixed : RowKind → Bool → Bool → Bool → OperatorRow
fixed kind left right whole = record { kind = kind; left = left; right = right; whole = whole }

-- The rows of truth tables 0 to 15.
unfoldable pub rows : List OperatorRow
rows =
    fixed constant_row false false true
    ∷ fixed and_row true true false
    ∷ fixed and_row true false false
    ∷ fixed left_row false false true
    ∷ fixed and_row false true false
    ∷ fixed right_row false false true
    ∷ fixed xor_row false false false
    ∷ fixed and_row false false true
    ∷ fixed and_row false false false
    ∷ fixed xor_row false false true
    ∷ fixed right_row false false false
    ∷ fixed and_row false true true
    ∷ fixed left_row false false false
    ∷ fixed and_row true false true
    ∷ fixed and_row true true true
    ∷ fixed constant_row false false false
    ∷ []

-- OperatorRow f of a list of rows; past its end, the constant 1.
unfoldable pub row_in : List OperatorRow → ℕ → OperatorRow
row_in [] f = fixed constant_row false false false
row_in (r ∷ rs) zero = r
row_in (r ∷ rs) (suc f) = row_in rs f

unfoldable pub row : ℕ → OperatorRow
row f = row_in rows f

-- What a row's gate says of the values of its operands, without the sign on the whole. An `and()` gate is 1.
unfoldable pub kind_value : RowKind → Bool → Bool → Bool
kind_value constant_row l r = true
kind_value left_row l r = l
kind_value right_row l r = r
kind_value and_row l r = l && r
kind_value xor_row l r = xor l r

-- A minus sign takes the other value.
unfoldable pub row_value : OperatorRow → Bool → Bool → Bool
row_value w l r = xor w.whole (kind_value w.kind (xor w.left l) (xor w.right r))

-- The rule of the rows: each has its operator's value (row_rule, proofs/Rows.antt).
abbrev pub RowRule : Type 0
RowRule = (f : ℕ) → f < 16 → (l r : Bool) → row_value (row f) l r ≡ operator_value f l r
