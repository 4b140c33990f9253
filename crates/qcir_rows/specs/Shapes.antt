-- Rows, and how nodes are written, as the code has them.
-- Assumes nothing.
use Rattle.std.specs.Prelude.{Bool, false, true, not, ◌≡◌, ℕ}
use Rattle.formula.specs.Node.{Node, constant, variable, negation, operator}
use Rattle.qcir_form.specs.Rows.{OperatorRow, constant_row, left_row, right_row, and_row, xor_row, fixed, row}
use Rattle.qcir_form.specs.Rows as form
use Rattle.qcir_rows.specs.declared.RowKind.{RowKind}
use Rattle.qcir_rows.specs.declared.RowKind.TheVariants.{Constant, Left, Right, And, Xor}
use Rattle.qcir_rows.specs.declared.Row as code
use Rattle.qcir_rows.specs.declared.Shape.{Shape}
use Rattle.qcir_rows.specs.declared.Shape.TheVariants.{Name, Row}

-- The kind and the row that those of the code stand for.
abbrev pub kind_meant : RowKind → form.RowKind
kind_meant Constant = constant_row
kind_meant Left = left_row
kind_meant Right = right_row
kind_meant And = and_row
kind_meant Xor = xor_row

abbrev pub row_meant : code.Row → OperatorRow
row_meant r = record { kind = kind_meant r.kind; left = r.left; right = r.right; whole = r.whole }

-- A shape with at most one operand, the left one.
abbrev pub leaf_shape : RowKind → Bool → ℕ → Shape
leaf_shape kind whole left = Row left 0 (record { kind = kind; left = false; right = false; whole = whole })

-- A node is written by the row over these operands: a constant by one of the two constant rows, a not node as its operand with a minus
-- sign. A matrix has no blocks.
pub data RowFor : Node → OperatorRow → ℕ → ℕ → Type 0 where
  constant_node : (c : Bool) → RowFor (constant c) (fixed constant_row false false (not c)) 0 0
  negation_node : (a : ℕ) → RowFor (negation a) (fixed left_row false false true) a 0
  operator_node : (f a b : ℕ) → RowFor (operator f a b) (row f) a b

-- How a node is written: a variable by its name, any other node by a row over its operands.
abbrev pub ShapeFor : Node → Shape → Type 0
ShapeFor nd (Name x) = nd ≡ variable x
ShapeFor nd (Row a b r) = RowFor nd (row_meant r) a b
