-- The names in a form's file are from 1 up to one for each node above the highest number that may stand in the form.
-- Assumes nothing.
use mathlib.Core.Path.{◌≡◌, refl, sym, ◌∙◌, ap, subst}
use mathlib.Core.Bool.{Bool, true, false}
use mathlib.Core.List.{List, []}
use Prim.Native.Nat.{ℕ, suc, ◌+◌, ◌≤◌}
use native.Mathlib.Omega.{arith}
use lib.Dec.{leb}
use borrow.Author.Tests.{leb-true, le-leb}
use Rattle.lists.specs.Choice.{and_left, and_right, or_cases}
use Rattle.lists.specs.Members.{mem}
use Rattle.lists.proofs.Members.{mem_append, all_mem, maximum_le}
use Rattle.lists.proofs.Parts.{sum_mono}
use Rattle.lists.proofs.Sums.{sum_ones}
use Rattle.formula.specs.Node.{Table}
use Rattle.formula.specs.Words.{node_count, table_of}
use Rattle.formula.specs.Truth.{digit}
use Rattle.formula.specs.Form.{Block, blocks_of}
use Rattle.acceptance.specs.Limits.{matrix_within}
use Rattle.acceptance.specs.Verdict.{is_number_to}
use Rattle.form_check.specs.Accepted.{AcceptedFormWithin, prefix_names}
use Rattle.acceptance.proofs.Matrix.{MatrixNode, matrix_node}
use Rattle.qcir.specs.File.{prefix_variables, numbers_of}
use Rattle.qcir_form.specs.File.{is_gate, gate_number, occurs, free_names, prefix_lines, first_gate}
use Rattle.qcir_form.specs.Laws.{FileFromOne, FileUpTo}
use Rattle.qcir_form.proofs.Numbers.{prefix_numbers, occurs_from, open_lists}
use Rattle.qcir_form.proofs.PlacedForm.{outer_of, first_of, end_of, form_outer, form_rising, form_output}
use Rattle.qcir_form.proofs.NamesSigns.{from_one_pass, up_to_pass, pass_file}

digit_le : (b : Bool) → digit b ≤ 1
unfolding digit
digit_le true = omega arith
digit_le false = omega arith

-- one number for each node at most
gates_few : (t : Table) (first : ℕ) → gate_number t first t.size ≤ first + t.size
unfolding gate_number
gates_few t first =
    omega (arith, sum_mono (λ j. digit (is_gate t j)) (λ j. 1) t.size (λ j h. digit_le (is_gate t j)), sum_ones (λ j. 1) t.size (λ j h. refl))

module _ (nodes most : ℕ) (ns ps xs : List ℕ) (form : AcceptedFormWithin (matrix_within nodes most) ns ps xs) where
  abbrev table : Table
  table = table_of ns []

  abbrev blocks : List Block
  blocks = blocks_of ps xs

  open_number : (x : ℕ) → mem x (free_names table blocks) ≡ true → is_number_to most x ≡ true
  unfolding table_of
  open_number x m =
      let o = occurs_from table x (and_left (occurs table x) _ (sym ((open_lists table blocks).members x) ∙ m)) in
      subst (MatrixNode most) o.3 (matrix_node nodes most ns form.matrix o.0 o.1)

  outer_number : (x : ℕ) → mem x (outer_of table blocks) ≡ true → is_number_to most x ≡ true
  outer_number x m =
      or_cases (mem x (free_names table blocks)) (mem x (numbers_of (prefix_variables (prefix_lines blocks)))) (sym (mem_append x (free_names table blocks) _) ∙ m)
      (open_number x)
      (λ k. all_mem (is_number_to most) (prefix_names blocks) x form.numbered (ap (mem x) (sym (prefix_numbers blocks)) ∙ k))

  outer_from-one : (x : ℕ) → mem x (outer_of table blocks) ≡ true → leb 1 x ≡ true
  unfolding is_number_to
  outer_from-one x m = and_left (leb 1 x) _ (outer_number x m)

  outer_up_to : (x : ℕ) → mem x (outer_of table blocks) ≡ true → x ≤ most
  unfolding is_number_to
  outer_up_to x m = leb-true x most (and_right (leb 1 x) _ (outer_number x m))

  first_low : first_of table blocks ≤ suc most
  unfolding first_gate
  first_low = omega (arith, maximum_le (outer_of table blocks) most outer_up_to)

  first_from_one : 1 ≤ first_of table blocks
  unfolding first_gate
  first_from_one = omega arith

pub file_from_one : FileFromOne
file_from_one nodes most ns ps xs form =
    let t = table_of ns [] in
    let bs = blocks_of ps xs in
    from_one_pass _
    ∙ pass_file (leb 1) (outer_of t bs) (first_of t bs) (end_of t bs) (outer_from-one nodes most ns ps xs form)
    (λ x h k. le-leb 1 x (omega (arith, first_from_one nodes most ns ps xs form)))
    _ (form_outer nodes most ns ps xs form) (form_rising nodes most ns ps xs form) (form_output nodes most ns ps xs form)

pub file_up_to : FileUpTo
unfolding table_of
file_up_to nodes most ns ps xs form =
    let t = table_of ns [] in
    let bs = blocks_of ps xs in
    let n : ℕ = node_count ns in
    up_to_pass (most + n) _
    ∙ pass_file (λ x. leb x (most + n)) (outer_of t bs) (first_of t bs) (end_of t bs)
    (λ x m. le-leb x (most + n) (omega (arith, outer_up_to nodes most ns ps xs form x m)))
    (λ x h k. le-leb x (most + n) (omega (arith, first_low nodes most ns ps xs form, gates_few t (first_of t bs))))
    _ (form_outer nodes most ns ps xs form) (form_rising nodes most ns ps xs form) (form_output nodes most ns ps xs form)
