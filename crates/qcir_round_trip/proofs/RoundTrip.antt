-- A form's file, read back with the prefix lines kept as prefix and written again, is the same file.
-- Assumes nothing.
use mathlib.Core.Path.{◌≡◌, ◌∙◌, ap, ap₂}
use mathlib.Core.Bool.{true}
use mathlib.Core.List.{List, [], map}
use Prim.Native.Nat.{ℕ, ◌-◌, ◌*◌, ◌<◌}
use lib.ListN.{length}
use Rattle.formula.specs.Node.{Table}
use Rattle.formula.specs.Words.{width, node_count, words_at, table_of}
use Rattle.formula.specs.Form.{Block, blocks_of}
use Rattle.formula.proofs.Prefix.{words_read}
use Rattle.acceptance.specs.Limits.{matrix_within}
use Rattle.form_check.specs.Accepted.{AcceptedFormWithin}
use Rattle.qcir.specs.File.{File}
use Rattle.qcir.specs.Table.{matrix_words, line_block, file_prefix, file_prefix_words, file_prefix_list}
use Rattle.qcir_form.specs.File.{written, named, node_literal_of, gates_of, occurs, free_names, prefix_lines, first_gate, matrix_file, form_file}
use Rattle.qcir_form.proofs.PlacedForm.{first_of, form_tree, form_plain}
use Rattle.qcir_form.proofs.Placed.{file_placed}
use Rattle.qcir_form.proofs.UsedOnce.{file_used_once}
use Rattle.qcir_round_trip.specs.Laws.{RoundTrip}
use Rattle.qcir_round_trip.proofs.Shapes.{FileFrom}
use Rattle.qcir_round_trip.proofs.Matrix.{Plain, matrix_plain, matrix_whole, stored_written, stored_tree, stored_no_block, gates_again, output_again}
use Rattle.qcir_round_trip.proofs.FormLines.{output_unplaced, gates_shapes}
use Rattle.qcir_round_trip.proofs.FreeNames.{MatrixTree, same_occurs, same_open}
use Rattle.qcir_round_trip.proofs.PrefixLines.{lines_again, binds_again}

module _ (nodes most : ℕ) (ns ps xs : List ℕ) (form : AcceptedFormWithin (matrix_within nodes most) ns ps xs) where
  abbrev file : File
  file = form_file ns ps xs

  abbrev table : Table
  table = table_of ns []

  abbrev blocks : List Block
  blocks = blocks_of ps xs

  abbrev first : ℕ
  first = first_of table blocks

  -- the table read back
  abbrev again : Table
  again = table_of (matrix_words file) []

  abbrev blocks_again : List Block
  blocks_again = blocks_of (file_prefix_words file) (file_prefix_list file)

  from : FileFrom first file
  unfolding form_file matrix_file
  from =
      record {
        shapes = gates_shapes table first;
        output = output_unplaced table first (table.size - 1);
        placed = file_placed nodes most ns ps xs form;
        once = file_used_once nodes most ns ps xs form;
      }

  pub again_plain : (i : ℕ) → i < node_count (matrix_words file) → Plain (words_at (matrix_words file) i)
  again_plain = matrix_plain file first from

  pub again_whole : length (matrix_words file) ≡ width * node_count (matrix_words file)
  again_whole = matrix_whole file first from

  pub again_written : (i : ℕ) → i < node_count (matrix_words file) → written again i ≡ true
  again_written = stored_written file first from

  pub again_matrix : MatrixTree again
  unfolding table_of
  again_matrix =
      record {
        tree = stored_tree file first from;
        plain = stored_no_block file first from;
      }

  form_matrix : MatrixTree table
  form_matrix = record { tree = form_tree nodes most ns ps xs form; plain = form_plain nodes most ns ps xs form }

  output_is : node_literal_of again first (again.size - 1) ≡ node_literal_of table first (table.size - 1)
  unfolding form_file matrix_file table_of
  output_is = output_again file first from

  gates_are : gates_of again first ≡ gates_of table first
  unfolding form_file matrix_file
  gates_are = gates_again file first from

  pub blocks_are : blocks_again ≡ map line_block (prefix_lines blocks)
  unfolding file_prefix_words file_prefix_list file_prefix form_file matrix_file
  blocks_are = words_read (map line_block (prefix_lines blocks))

  lines_are : prefix_lines blocks_again ≡ prefix_lines blocks
  lines_are = ap prefix_lines blocks_are ∙ lines_again blocks

  pub names_occur : (x : ℕ) → occurs again x ≡ occurs table x
  names_occur = same_occurs again table again_matrix form_matrix first output_is gates_are

  names_are : free_names again blocks_again ≡ free_names table blocks
  names_are =
      ap (free_names again) blocks_are
      ∙ same_open again table again_matrix form_matrix first output_is gates_are
      (map line_block (prefix_lines blocks)) blocks (binds_again blocks)

  first_is : first_of again blocks_again ≡ first
  first_is = ap₂ first_gate names_are lines_are

  file_again : matrix_file again blocks_again ≡ matrix_file table blocks
  unfolding matrix_file
  file_again =
      let output : node_literal_of again (first_of again blocks_again) (again.size - 1) ≡ node_literal_of table first (table.size - 1) =
      ap (λ n. node_literal_of again n (again.size - 1)) first_is ∙ output_is in
      let gates : gates_of again (first_of again blocks_again) ≡ gates_of table first = ap (gates_of again) first_is ∙ gates_are in
      λ i. record { free = map named (names_are i); prefix = lines_are i; output = output i; gates = gates i }

  round : form_file (matrix_words file) (file_prefix_words file) (file_prefix_list file) ≡ file
  unfolding form_file
  round = file_again

pub round_trip : RoundTrip
round_trip = round
