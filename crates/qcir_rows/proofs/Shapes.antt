-- What the row of a node says of the lines and literals that are written for it.
-- Assumes nothing.
use mathlib.Core.Path.{◌≡◌, refl}
use mathlib.Core.Bool.{true, false}
use mathlib.Core.List.{[], ◌∷◌}
use Prim.Native.Nat.{ℕ, ◌<◌, ◌≤◌}
use native.Mathlib.Omega.{arith}
use Rattle.lists.specs.Members.{mem}
use Rattle.lists.proofs.Members.{mem_head, mem_tail}
use Rattle.formula.specs.Node.{Node, operands, Table}
use Rattle.formula.specs.Tree.{Tree}
use Rattle.formula.specs.FreeVariables.{stands_at, number_at}
use Rattle.qcir.specs.File.{Literal}
use Rattle.qcir_form.specs.Rows.{OperatorRow}
use Rattle.qcir_form.specs.File.{row_operands, used_operands, row_has_gate, has_gate, row_literal, node_literal, row_gates, node_gates}
use Rattle.qcir_rows.specs.Shapes.{RowFor, constant_node, negation_node, operator_node}

pub row_used : {nd : Node} {r : OperatorRow} {a b : ℕ} → RowFor nd r a b → used_operands nd ≡ row_operands r.kind a b
unfolding used_operands row_operands
row_used (constant_node c) = refl
row_used (negation_node a) = refl
row_used (operator_node f a b) = refl

pub row_gate : {nd : Node} {r : OperatorRow} {a b : ℕ} → RowFor nd r a b → has_gate nd ≡ row_has_gate r.kind
unfolding has_gate row_has_gate
row_gate (constant_node c) = refl
row_gate (negation_node a) = refl
row_gate (operator_node f a b) = refl

pub row_literal_is : {nd : Node} {r : OperatorRow} {a b : ℕ} → RowFor nd r a b → (at : ℕ → Literal) (g : ℕ)
    → node_literal at g nd ≡ row_literal r.kind r.whole g (at a) (at b)
unfolding node_literal row_literal
row_literal_is (constant_node c) at g = refl
row_literal_is (negation_node a) at g = refl
row_literal_is (operator_node f a b) at g = refl

pub row_gates_are : {nd : Node} {r : OperatorRow} {a b : ℕ} → RowFor nd r a b → (at : ℕ → Literal) (g : ℕ)
    → node_gates at g nd ≡ row_gates r.kind r.left r.right g (at a) (at b)
unfolding node_gates row_gates
row_gates_are (constant_node c) at g = refl
row_gates_are (negation_node a) at g = refl
row_gates_are (operator_node f a b) at g = refl

-- no name stands there
pub row_no_name : {nd : Node} {r : OperatorRow} {a b : ℕ} → RowFor nd r a b → (x : ℕ) → stands_at x nd ≡ false
unfolding stands_at
row_no_name (constant_node c) x = refl
row_no_name (negation_node a) x = refl
row_no_name (operator_node f a b) x = refl

pub row_no_number : {nd : Node} {r : OperatorRow} {a b : ℕ} → RowFor nd r a b → number_at nd ≡ 0
unfolding number_at
row_no_number (constant_node c) = refl
row_no_number (negation_node a) = refl
row_no_number (operator_node f a b) = refl

-- The operands of a row are not above its node.
low_by : {nd : Node} {r : OperatorRow} {a b : ℕ} → RowFor nd r a b → (i : ℕ) → ((a : ℕ) → mem a (operands nd) ≡ true → a < i) → (a ≤ i) × (b ≤ i)
unfolding operands
low_by (constant_node c) i h = (omega arith, omega arith)
low_by (negation_node a) i h = let l = h a (mem_head a []) in (omega arith, omega arith)
low_by (operator_node f a b) i h =
    let l = h a (mem_head a (b ∷ [])) in
    let m = h b (mem_tail b a (b ∷ []) (mem_head b [])) in
    (omega arith, omega arith)

pub operands_low : (t : Table) → Tree t → (i : ℕ) → i < t.size → {r : OperatorRow} {a b : ℕ} → RowFor (t.node i) r a b → (a ≤ i) × (b ≤ i)
operands_low t tr i h s = low_by s i (λ a m. tr.lower i a h m)
