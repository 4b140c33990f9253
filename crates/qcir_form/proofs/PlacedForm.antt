-- The file of a form that is not refused: its outer names, and its gate lines over them.
-- Assumes nothing.
use mathlib.Core.Path.{◌≡◌, ◌∙◌, ap}
use mathlib.Core.Bool.{true, false}
use mathlib.Core.List.{List, [], ◌++◌, map}
use Prim.Native.Nat.{ℕ, suc, ◌-◌, ◌<◌}
use native.Mathlib.Omega.{arith}
use Rattle.lists.specs.Members.{mem}
use Rattle.formula.specs.Node.{Table, is_block}
use Rattle.formula.specs.Words.{table_of}
use Rattle.formula.specs.Form.{Block, blocks_of}
use Rattle.formula.specs.Tree.{Tree}
use Rattle.acceptance.specs.Limits.{matrix_within}
use Rattle.form_check.specs.Accepted.{AcceptedFormWithin}
use Rattle.acceptance.proofs.Matrix.{no_block}
use Rattle.qcir.specs.File.{prefix_variables, numbers_of}
use Rattle.qcir.specs.Refusals.{outer_names}
use Rattle.qcir.proofs.GateLines.{numbers_append}
use Rattle.qcir_form.specs.File.{named, gate_number, free_names, prefix_lines, first_gate, matrix_file, form_file}
use Rattle.qcir_form.proofs.Written.{written_root}
use Rattle.qcir_form.proofs.Numbers.{gate_grows, numbers_named, known_below, written_known}
use Rattle.qcir_form.proofs.PlacedLines.{Usable, usable_up, Rising, usable, rising_gates}

-- The numbers in the free and prefix lines, and the first gate's.
abbrev pub outer_of : Table → List Block → List ℕ
outer_of t bs = free_names t bs ++ numbers_of (prefix_variables (prefix_lines bs))

abbrev pub first_of : Table → List Block → ℕ
first_of t bs = first_gate (free_names t bs) (prefix_lines bs)

-- above the last one's
abbrev pub end_of : Table → List Block → ℕ
end_of t bs = gate_number t (first_of t bs) t.size

pub outer_below : (t : Table) (bs : List Block) (x : ℕ) → mem x (outer_of t bs) ≡ true → x < first_of t bs
outer_below t bs x m = known_below (free_names t bs) (prefix_lines bs) x m

module _ (nodes most : ℕ) (ns ps xs : List ℕ) (form : AcceptedFormWithin (matrix_within nodes most) ns ps xs) where
  abbrev table : Table
  table = table_of ns []

  abbrev blocks : List Block
  blocks = blocks_of ps xs

  pub form_tree : Tree table
  form_tree = form.matrix.proper.tree

  pub form_plain : (i : ℕ) → i < table.size → is_block (table.node i) ≡ false
  unfolding table_of
  form_plain = no_block nodes most ns form.matrix

  pub form_outer : numbers_of (outer_names (form_file ns ps xs)) ≡ outer_of table blocks
  unfolding form_file matrix_file outer_names
  form_outer =
      numbers_append (map named (free_names table blocks)) (prefix_variables (prefix_lines blocks))
      ∙ ap (λ l. l ++ numbers_of (prefix_variables (prefix_lines blocks))) (numbers_named (free_names table blocks))

  pub form_rising : Rising (outer_of table blocks) (first_of table blocks) (first_of table blocks) (form_file ns ps xs).gates (end_of table blocks)
  unfolding form_file matrix_file
  form_rising = rising_gates table form_tree form_plain (outer_of table blocks) (first_of table blocks) (written_known table blocks)

  pub form_output : Usable (outer_of table blocks) (first_of table blocks) (end_of table blocks) (form_file ns ps xs).output.name.number
  unfolding form_file matrix_file
  form_output =
      let some : 0 < table.size = form_tree.nonempty in
      usable_up _ _ _ _ _ (gate_grows table (first_of table blocks) (suc (table.size - 1)) table.size (omega arith))
      (usable table form_tree form_plain (outer_of table blocks) (first_of table blocks) (written_known table blocks) (table.size - 1) (omega arith)
      (written_root table some))
