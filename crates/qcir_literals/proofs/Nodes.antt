-- What is stored for one node.
-- Assumes nothing.
use mathlib.Core.Path.{◌≡◌, sym, ◌∙◌, ap, subst}
use mathlib.Core.Bool.{false, true}
use mathlib.Core.List.{List, [], ◌∷◌}
use Prim.Native.Nat.{ℕ, ◌+◌, ◌*◌, ◌<◌, ◌≤◌}
use native.Mathlib.Nat.{add-zero}
use native.Mathlib.Omega.{arith}
use lib.ListN.{get_or, set}
use Rattle.lists.specs.Members.{mem}
use Rattle.lists.proofs.Members.{mem_head}
use Rattle.formula.specs.Node.{Node, variable}
use Rattle.formula.specs.Truth.{digit}
use Rattle.qcir_text.specs.Pieces.{literal_of, number_bound}
use Rattle.qcir_form.specs.Rows.{OperatorRow, left_row, right_row}
use Rattle.qcir_form.specs.File.{row_operands, used_operands, row_has_gate, has_gate, row_literal, node_literal}
use Rattle.qcir_rows.specs.Shapes.{RowFor}
use Rattle.qcir_rows.proofs.Shapes.{row_used, row_gate, row_literal_is}
use Rattle.qcir_literals.specs.Literals.{NodeFilled, stored}
use Rattle.qcir_literals.proofs.Codes.{of_gate}

-- a name
pub node_name : (nd : Node) (i gate : ℕ) (ls : List ℕ) (x : ℕ) → nd ≡ variable x → (1 ≤ x) × (x ≤ 77823) → (get_or ls i 0 ≡ 0 → ⊥)
    → NodeFilled nd i gate ls (set ls i (2 * x)) gate
unfolding node_literal used_operands has_gate digit
node_name nd i gate ls x v l n =
    rw v
    (subst (NodeFilled (variable x) i gate ls (set ls i (2 * x))) (add-zero gate)
    (stored n (2 * x) (record { literal_is = ap literal_of (sym (add-zero (2 * x))) ∙ of_gate x false; real = λ h. omega arith; low = omega arith })))

-- a row
module _ {nd : Node} {r : OperatorRow} {a b : ℕ} (s : RowFor nd r a b) (i gate : ℕ) (ls : List ℕ) (word : ℕ) where
  -- an operand that is the only one
  only_real : (x : ℕ) → ((y : ℕ) → mem y (used_operands nd) ≡ true → 1 < get_or ls y 0) → row_operands r.kind a b ≡ x ∷ [] → 1 < get_or ls x 0
  only_real x h q = h x (ap (mem x) (row_used s ∙ q) ∙ mem_head x [])

  pub node_row : (gate' : ℕ) → (get_or ls i 0 ≡ 0 → ⊥)
      → literal_of word ≡ row_literal r.kind r.whole gate (literal_of (get_or ls a 0)) (literal_of (get_or ls b 0))
      → ((r.kind ≡ left_row → 1 < get_or ls a 0) → (r.kind ≡ right_row → 1 < get_or ls b 0) → 1 < word)
      → word < number_bound → gate' ≡ gate + digit (row_has_gate r.kind) → NodeFilled nd i gate ls (set ls i word) gate'
  unfolding row_operands
  node_row gate' n lit real low g =
      subst (NodeFilled nd i gate ls (set ls i word)) (ap (λ q. gate + digit q) (row_gate s) ∙ sym g)
      (stored n word (record {
        literal_is = lit ∙ sym (row_literal_is s (λ x. literal_of (get_or ls x 0)) gate);
        real = λ h. real (λ e. only_real a h (ap (λ k. row_operands k a b) e)) (λ e. only_real b h (ap (λ k. row_operands k a b) e));
        low = low;
      }))
