-- The QCIR file of a prenex form (request S-5), of any size and with any names. What stands where in a text is S-1's to say, so every
-- position in it is 0.
-- Assumes nothing.
use Rattle.std.specs.Prelude.{Bool, true, false, not, ◌&&◌, ◌||◌, ℕ, zero, suc, ◌+◌, ◌-◌, eqb}
use Rattle.std.specs.Bool.{xor}
use mathlib.Core.List.{List, [], ◌∷◌, ◌++◌, map, flat_map}
use Rattle.lists.specs.Choice.{pick}
use Rattle.lists.specs.Members.{maximum}
use Rattle.lists.specs.Search.{some_below}
use Rattle.lists.specs.Parts.{up_to, passing, sum}
use Rattle.formula.specs.Node.{Node, constant, variable, negation, operator, block, Table}
use Rattle.formula.specs.Words.{table_of}
use Rattle.formula.specs.Truth.{digit}
use Rattle.formula.specs.Form.{Block, blocks_of, binds}
use Rattle.formula.specs.FreeVariables.{stands_at, highest_variable}
use Rattle.qcir.specs.File.{Literal, conjunction, Gate, junction_gate, xor_gate, Line, prefix_variables, File, numbers_of}
use Rattle.qcir_text.specs.Text.{file_text}
pub use Rattle.qcir_text.specs.Pieces.{named, literal}
unfoldable pub use Rattle.qcir_text.specs.Pieces.{list_lines}
use Rattle.qcir_form.specs.Rows.{RowKind, constant_row, left_row, right_row, and_row, xor_row, row}

-- The operands that a row does not ignore, of these two.
unfoldable pub row_operands : RowKind → ℕ → ℕ → List ℕ
row_operands constant_row a b = []
row_operands left_row a b = a ∷ []
row_operands right_row a b = b ∷ []
row_operands and_row a b = a ∷ b ∷ []
row_operands xor_row a b = a ∷ b ∷ []

-- The operands of a node that are not ignored. A matrix has no blocks.
unfoldable pub used_operands : Node → List ℕ
used_operands (constant c) = []
used_operands (variable x) = []
used_operands (negation a) = a ∷ []
used_operands (operator f a b) = row_operands (row f).kind a b
used_operands (block q xs a) = []

-- Some element passes the test.
unfoldable pub some : (ℕ → Bool) → List ℕ → Bool
some p [] = false
some p (x ∷ xs) = p x || some p xs

-- Node i is node j, or hangs on it by operands that are not ignored. The first argument bounds how far down operands go; where they are
-- lower than their users it says nothing (hang_bound, proofs/Written.antt).
unfoldable pub hangs_on : ℕ → Table → ℕ → ℕ → Bool
hangs_on zero t i j = false
hangs_on (suc f) t i j = eqb i j || some (hangs_on f t i) (used_operands (t.node j))

-- "An operand that a row ignores is not written, nor what hangs on it": node i is written if it hangs so on the root.
unfoldable pub written : Table → ℕ → Bool
written t i = hangs_on t.size t i (t.size - 1)

-- The literal with its sign turned, where the test says so.
unfoldable pub turned : Bool → Literal → Literal
turned s l = record { minus = xor s l.minus; name = l.name }

-- The literal without its sign.
unfoldable pub unsigned : Literal → Literal
unsigned l = record { minus = false; name = l.name }

-- Whether a row is written as a gate.
unfoldable pub row_has_gate : RowKind → Bool
row_has_gate constant_row = true
row_has_gate left_row = false
row_has_gate right_row = false
row_has_gate and_row = true
row_has_gate xor_row = true

-- Whether a node is: each constant node, and each operator whose row is constant, has an `and()` gate of its own.
unfoldable pub has_gate : Node → Bool
has_gate (constant c) = true
has_gate (variable x) = false
has_gate (negation a) = false
has_gate (operator f a b) = row_has_gate (row f).kind
has_gate (block q xs a) = false

-- What stands for an operator, g being its gate's number and l and m what stands for its operands. "`xor` with signs moved outside": the
-- operands' signs go to the whole.
unfoldable pub row_literal : RowKind → Bool → ℕ → Literal → Literal → Literal
row_literal constant_row whole g l m = literal whole g
row_literal left_row whole g l m = turned whole l
row_literal right_row whole g l m = turned whole m
row_literal and_row whole g l m = literal whole g
row_literal xor_row whole g l m = literal (xor whole (xor l.minus m.minus)) g

-- What stands for a node, given what stands for its operands and the number of its own gate. "Not nodes become signs"; "Constants are
-- `and()` gates, signed": a minus for 0.
unfoldable pub node_literal : (ℕ → Literal) → ℕ → Node → Literal
node_literal at g (constant c) = literal (not c) g
node_literal at g (variable x) = literal false x
node_literal at g (negation a) = turned true (at a)
node_literal at g (operator f a b) = row_literal (row f).kind (row f).whole g (at a) (at b)
node_literal at g (block q xs a) = literal false g

-- What stands for node i, the gates being numbered so. The first argument bounds how far down operands go, and says no more than that of
-- `hangs_on` (literal_bound, proofs/Written.antt).
unfoldable pub literal_at : ℕ → (ℕ → Node) → (ℕ → ℕ) → ℕ → Literal
literal_at zero node gate i = literal false 0
literal_at (suc f) node gate i = node_literal (literal_at f node gate) (gate i) (node i)

-- The gate line of a row, if it has one, the left and the right operand having these signs: `and` of signed operands, `xor` of unsigned
-- ones.
unfoldable pub row_gates : RowKind → Bool → Bool → ℕ → Literal → Literal → List Gate
row_gates constant_row left right g l m = junction_gate conjunction (named g) [] ∷ []
row_gates left_row left right g l m = []
row_gates right_row left right g l m = []
row_gates and_row left right g l m = junction_gate conjunction (named g) (turned left l ∷ turned right m ∷ []) ∷ []
row_gates xor_row left right g l m = xor_gate (named g) (unsigned l) (unsigned m) ∷ []

-- The gate line of a node, if it has one.
unfoldable pub node_gates : (ℕ → Literal) → ℕ → Node → List Gate
node_gates at g (constant c) = junction_gate conjunction (named g) [] ∷ []
node_gates at g (variable x) = []
node_gates at g (negation a) = []
node_gates at g (operator f a b) = row_gates (row f).kind (row f).left (row f).right g (at a) (at b)
node_gates at g (block q xs a) = []

-- Node i is written as a gate.
unfoldable pub is_gate : Table → ℕ → Bool
is_gate t i = written t i && has_gate (t.node i)

-- "gates in node order, numbered from" the first number on: the number of node i's gate.
unfoldable pub gate_number : Table → ℕ → ℕ → ℕ
gate_number t first i = first + sum (λ j. digit (is_gate t j)) i

-- What stands for node i.
unfoldable pub node_literal_of : Table → ℕ → ℕ → Literal
node_literal_of t first i = literal_at t.size t.node (gate_number t first) i

-- The gate lines, "in node order".
unfoldable pub gates_of : Table → ℕ → List Gate
gates_of t first = up_to (λ i. pick (is_gate t i) (node_gates (node_literal_of t first) (gate_number t first i) (t.node i)) []) t.size

-- The name occurs in a gate or output line written: it stands at a variable node that is written.
unfoldable pub occurs : Table → ℕ → Bool
occurs t x = some_below (λ i. written t i && stands_at x (t.node i)) t.size

-- "the open names (ascending) that occur in a gate or output line written": at a variable node, and in no prefix block.
unfoldable pub free_names : Table → List Block → List ℕ
free_names t bs = passing (λ x. occurs t x && not (binds bs x)) (suc (highest_variable t))

-- "one line for each nonempty block"
unfoldable pub prefix_lines : List Block → List Line
prefix_lines bs = flat_map (λ (b : Block). list_lines b.quantifier b.variables) bs

-- "numbered from one above the highest number in the free and prefix lines"
unfoldable pub first_gate : List ℕ → List Line → ℕ
first_gate names lines = suc (maximum (names ++ numbers_of (prefix_variables lines)))

-- The file of a matrix under prefix blocks.
unfoldable pub matrix_file : Table → List Block → File
matrix_file t bs =
    let names = free_names t bs in
    let lines = prefix_lines bs in
    let first = first_gate names lines in
    record {
      free = map named names;
      prefix = lines;
      output = node_literal_of t first (t.size - 1);
      gates = gates_of t first;
    }

-- The file of a form, and its text.
unfoldable pub form_file : List ℕ → List ℕ → List ℕ → File
form_file ns ps xs = matrix_file (table_of ns []) (blocks_of ps xs)

unfoldable pub form_text : List ℕ → List ℕ → List ℕ → List ℕ
form_text ns ps xs = file_text (form_file ns ps xs)
