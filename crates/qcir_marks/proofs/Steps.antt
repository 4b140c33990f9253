-- What the pass does at one node.
-- Assumes nothing.
use mathlib.Core.Path.{◌≡◌, refl, sym, ◌∙◌, ap}
use mathlib.Core.Bool.{Bool, true, false, ◌||◌}
use mathlib.Core.List.{List, [], ◌∷◌}
use Prim.Native.Nat.{ℕ, ◌<◌, max}
use native.Mathlib.Omega.{arith}
use lib.Dec.{eqb}
use lib.ListN.{length, get_or, set, length-set}
use borrow.Author.Tests.{eq-eqb, ne_eqb}
use Rattle.lists.specs.Choice.{pick, pick_no}
use Rattle.lists.specs.Members.{mem}
use Rattle.lists.proofs.Stores.{get_d_set}
use Rattle.formula.specs.Node.{Node, variable}
use Rattle.formula.specs.FreeVariables.{stands_at, number_at}
use Rattle.qcir_form.specs.Rows.{OperatorRow}
use Rattle.qcir_form.specs.File.{row_operands, used_operands}
use Rattle.qcir_rows.specs.Shapes.{RowFor}
use Rattle.qcir_rows.proofs.Shapes.{row_used, row_no_name, row_no_number}
use Rattle.name_flags.specs.Flags.{flag_with}
use Rattle.qcir_marks.specs.Marks.{marks_after, flags_after, highest_after, NodeMarked, is_marked}

two_marks : (p q : Bool) (m : ℕ) → pick q 1 (pick p 1 m) ≡ pick (p || (q || false)) 1 m
unfolding pick
two_marks true true m = refl
two_marks true false m = refl
two_marks false true m = refl
two_marks false false m = refl

-- Marks of operands.
module _ (marks : List ℕ) (a b : ℕ) where
  pub operands_both : a < length marks → b < length marks → (i : ℕ)
      → get_or (set (set marks a 1) b 1) i 0 ≡ pick (mem i (a ∷ b ∷ [])) 1 (get_or marks i 0)
  unfolding mem pick
  operands_both h l i =
      rw (get_d_set (set marks a 1) b 1 0 (simp length-set (omega arith)) i, get_d_set marks a 1 0 h i) (two_marks (eqb i a) (eqb i b) (get_or marks i 0))

same_twice : (p : Bool) (m : ℕ) → pick (p || (p || false)) 1 m ≡ pick (p || false) 1 m
unfolding pick
same_twice true m = refl
same_twice false m = refl

-- an operand marked twice is marked
pub operand_twice : (a m i : ℕ) → pick (mem i (a ∷ a ∷ [])) 1 m ≡ pick (mem i (a ∷ [])) 1 m
unfolding mem
operand_twice a m i = same_twice (eqb i a) m

-- One node.

no_higher : (b : Bool) (x h : ℕ) → x ≡ 0 → h ≡ pick b (max h x) h
unfolding pick
no_higher true x h z = omega arith
no_higher false x h z = refl

module _ (marks names : List ℕ) (i h : ℕ) (nd : Node) where
  -- a node that is not marked does nothing
  pub node_unmarked : get_or marks i 0 ≡ 0 → NodeMarked (is_marked marks i) nd marks names h marks names h
  unfolding is_marked marks_after flags_after highest_after pick
  node_unmarked z =
      rw (eq-eqb (get_or marks i 0) 0 z)
      (record { marks_are = λ j. refl; flags_are = λ x. refl; highest_is = refl })

  -- a name
  pub node_name : (names' : List ℕ) (x h' : ℕ) → (get_or marks i 0 ≡ 0 → ⊥) → nd ≡ variable x
      → ((y : ℕ) → get_or names' y 0 ≡ pick (eqb y x) (flag_with (get_or names y 0) true) (get_or names y 0))
      → h' ≡ pick (eqb (get_or names x 0) 0) (max h x) h → NodeMarked (is_marked marks i) nd marks names h marks names' h'
  unfolding is_marked marks_after flags_after highest_after used_operands stands_at number_at mem pick
  node_name names' x h' n v fs e =
      rw (ne_eqb (get_or marks i 0) 0 n, v)
      (record { marks_are = λ j. refl; flags_are = fs; highest_is = e })

  -- a row
  pub node_row : (marks' : List ℕ) {r : OperatorRow} {a b : ℕ} → (get_or marks i 0 ≡ 0 → ⊥) → RowFor nd r a b
      → ((j : ℕ) → get_or marks' j 0 ≡ pick (mem j (row_operands r.kind a b)) 1 (get_or marks j 0))
      → NodeMarked (is_marked marks i) nd marks names h marks' names h
  unfolding is_marked marks_after flags_after highest_after
  node_row marks' n s ms =
      rw (ne_eqb (get_or marks i 0) 0 n)
      (record {
        marks_are = λ j. ms j ∙ ap (λ xs. pick (mem j xs) 1 (get_or marks j 0)) (sym (row_used s));
        flags_are = λ x. sym (pick_no (stands_at x nd) _ _ (row_no_name s x));
        highest_is = no_higher (eqb (get_or names (number_at nd) 0) 0) (number_at nd) h (row_no_number s);
      })
