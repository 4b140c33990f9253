-- From what the passes over a form leave to what the lines are put from.
-- Assumes nothing.
use mathlib.Core.Path.{◌≡◌, ◌∙◌, ap}
use mathlib.Core.Bool.{true, not}
use mathlib.Core.List.{List, [], ◌++◌}
use Prim.Native.Nat.{ℕ, ◌+◌, ◌≤◌, max}
use native.Mathlib.Omega.{arith}
use lib.Dec.{leb, ltb}
use lib.ListN.{length, get_or}
use borrow.Author.Tests.{leb-true, ltb-true, ltb-false}
use Rattle.lists.specs.Choice.{Is, is_true, is_false, look, and_left, and_right}
use Rattle.lists.specs.Members.{maximum}
use Rattle.lists.proofs.Members.{all_mem, maximum_le, maximum_append}
use Rattle.formula.specs.Truth.{digit}
use Rattle.formula.specs.Words.{table_of}
use Rattle.formula.specs.Form.{Block, blocks_of, binds}
use Rattle.acceptance.specs.Verdict.{is_number_to}
use Rattle.form_check.specs.Accepted.{AcceptedForm, prefix_names}
use Rattle.acceptance.proofs.Matrix.{matrix_node}
use Rattle.qcir_form.specs.File.{occurs, free_names, prefix_lines, first_gate}
use Rattle.qcir_form.proofs.Numbers.{prefix_numbers, occurs_from, open_lists}
use Rattle.name_flags.specs.Flags.{FreeFlags}
use Rattle.name_flags.proofs.Free.{last_free, free_flags, free_highest}
use Rattle.qcir_marks.specs.Marks.{Marked}
use Rattle.qcir_lines.specs.Lines.{is_free}

number_low : (x : ℕ) → is_number_to 77823 x ≡ true → x ≤ 77823
unfolding is_number_to
number_low x h = leb-true x 77823 (and_right (leb 1 x) (leb x 77823) h)

module _ (ns ps xs before marks names : List ℕ) (last : ℕ) (a : AcceptedForm ns ps xs)
    (bound : (x : ℕ) → get_or before x 0 ≡ digit (binds (blocks_of ps xs) x)) (m : Marked (table_of ns []) before marks names last) where
  abbrev bs : List Block
  bs = blocks_of ps xs

  last_low : last ≤ 77823
  unfolding table_of
  last_low = go (look (ltb 0 last))
    where
      go : Is (ltb 0 last) → last ≤ 77823
      go (is_false e) = omega (arith, ltb-false 0 last e)
      go (is_true e) =
          let open_last = last_free (occurs (table_of ns [])) (binds bs) before names last bound m.flagged m.highest_is (ltb-true 0 last e) in
          let o = occurs_from (table_of ns []) last (and_left (occurs (table_of ns []) last) (not (binds bs last)) open_last) in
          number_low last (rw o.3 at (matrix_node 40960 77823 ns a.matrix o.0 o.1))

  pub open_flags : length names ≡ 77824 → FreeFlags (is_free (table_of ns []) bs) names last
  open_flags size =
      free_flags (occurs (table_of ns [])) (binds bs) before names last bound m.flagged m.highest_is size (omega (arith, last_low))

  open_highest : maximum (free_names (table_of ns []) bs) ≡ last
  open_highest =
      free_highest (occurs (table_of ns [])) (binds bs) before names last bound m.flagged m.highest_is (free_names (table_of ns []) bs)
      (open_lists (table_of ns []) bs)

  -- The first gate's number is one above both.
  pub first_gate_lem : (highest : ℕ) → highest ≡ maximum (prefix_names bs) → first_gate (free_names (table_of ns []) bs) (prefix_lines bs) ≡ 1 + max last highest
  unfolding first_gate
  first_gate_lem highest e =
      let names = free_names (table_of ns []) bs in
      let joined = ap (λ (ys : List ℕ). maximum (names ++ ys)) (prefix_numbers bs) ∙ maximum_append names (prefix_names bs) in
      omega (arith, joined, open_highest, e)

  pub first_low : (highest : ℕ) → highest ≡ maximum (prefix_names bs) → max last highest ≤ 77823
  first_low highest e =
      let top : maximum (prefix_names bs) ≤ 77823 = maximum_le (prefix_names bs) 77823 (λ x h. number_low x (all_mem (is_number_to 77823) (prefix_names bs) x a.numbered h)) in
      omega (arith, last_low, e, top)
