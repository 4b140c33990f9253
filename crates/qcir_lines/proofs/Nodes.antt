-- The gate line of one node: it is not written, or is a name, or is written by a row.
-- Assumes nothing.
use mathlib.Core.Path.{◌≡◌, refl, ◌∙◌, ap}
use mathlib.Core.Bool.{Bool, true, false}
use mathlib.Core.List.{List, []}
use Prim.Native.Nat.{ℕ, ◌/◌}
use lib.Dec.{eqb}
use lib.ListN.{get_or}
use borrow.Author.Tests.{eq-eqb, ne_eqb}
use Rattle.lists.specs.Choice.{pick, pick_yes, pick_no}
use Rattle.formula.specs.Node.{Node, variable}
use Rattle.qcir.specs.Spelling.{gates_signs}
use Rattle.qcir_text.specs.Text.{signs_text}
use Rattle.texts.specs.Put.{Put}
use Rattle.qcir_text.specs.Pieces.{literal_of}
use Rattle.texts.proofs.Put.{put_none, put_as}
use Rattle.qcir_form.specs.Rows.{OperatorRow}
use Rattle.qcir_form.specs.File.{row_gates, node_gates}
use Rattle.qcir_rows.specs.Shapes.{RowFor}
use Rattle.qcir_rows.proofs.Shapes.{row_gates_are}
use Rattle.qcir_lines.specs.Lines.{held_gates}

pick_none : {A : Type 0} (b : Bool) (xs : List A) → xs ≡ [] → pick b [] xs ≡ []
unfolding pick
pick_none true xs e = refl
pick_none false xs e = e

module _ (literals : List ℕ) (i : ℕ) (nd : Node) where
  abbrev node_text : List ℕ
  node_text = signs_text (gates_signs (held_gates literals i nd))

  no_text : (before : List ℕ) (at : ℕ) → held_gates literals i nd ≡ [] → Put before at node_text before at
  unfolding gates_signs signs_text
  no_text before at e = put_as (ap (λ gs. signs_text (gates_signs gs)) e) (put_none before at)

  pub put_blank : (before : List ℕ) (at : ℕ) → get_or literals i 0 ≡ 0 → Put before at node_text before at
  unfolding held_gates
  put_blank before at z = no_text before at (pick_yes (eqb (get_or literals i 0) 0) _ _ (eq-eqb (get_or literals i 0) 0 z))

  pub put_name : (before : List ℕ) (at : ℕ) {x : ℕ} → nd ≡ variable x → Put before at node_text before at
  unfolding held_gates node_gates
  put_name before at v = no_text before at (pick_none (eqb (get_or literals i 0) 0) _ (ap (node_gates _ _) v))

  pub put_by_row : {r : OperatorRow} {a b : ℕ} → RowFor nd r a b → (get_or literals i 0 ≡ 0 → ⊥)
      → {before after : List ℕ} {at next : ℕ}
      → Put before at (signs_text (gates_signs (row_gates r.kind r.left r.right (get_or literals i 0 / 2) (literal_of (get_or literals a 0)) (literal_of (get_or literals b 0))))) after next
      → Put before at node_text after next
  unfolding held_gates
  put_by_row s w q =
      put_as
      (ap (λ gs. signs_text (gates_signs gs))
      (pick_no (eqb (get_or literals i 0) 0) _ _ (ne_eqb (get_or literals i 0) 0 w)
      ∙ row_gates_are s (λ a. literal_of (get_or literals a 0)) (get_or literals i 0 / 2)))
      q
