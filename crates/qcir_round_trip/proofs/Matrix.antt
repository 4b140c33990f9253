-- The matrix that is stored for a written file: all its nodes are written, as the file's gate lines and output.
-- Assumes nothing.
use mathlib.Core.Path.{◌≡◌, refl, sym, ◌∙◌}
use mathlib.Core.Bool.{true, false}
use mathlib.Core.List.{[], append-nil}
use Prim.Native.Nat.{ℕ, ◌*◌, ◌-◌, ◌<◌}
use native.Mathlib.Omega.{arith}
use lib.ListN.{length}
use Rattle.formula.specs.Node.{variable, operands, is_block}
use Rattle.formula.specs.Words.{width, node_count, is_block_kind, words_at, node_of, words_of, node_at, table_of}
use Rattle.formula.specs.Truth.{digit}
use Rattle.formula.specs.declared.NodeWords.{NodeWords}
use Rattle.formula.specs.Tree.{Tree}
use Rattle.formula.proofs.Nodes.{is_block_lem}
use Rattle.lists.specs.Choice.{pick}
use Rattle.acceptance.specs.Limits.{matrix_within}
use Rattle.acceptance.specs.Verdict.{is_number_to, well_formed}
use Rattle.qcir.specs.File.{File}
use Rattle.qcir.specs.Table.{Draft, store_gates, empty_draft, store_matrix, matrix_words, matrix_list}
use Rattle.qcir.proofs.Theorem.{matrix_tree, matrix_root}
use Rattle.qcir_form.specs.Rows.{rows, row_in, row}
use Rattle.qcir_form.specs.File.{row_operands, used_operands, written, node_literal_of, gates_of}
use Rattle.qcir_form.proofs.Written.{every_written}
use Rattle.qcir_round_trip.proofs.Words.{First}
use Rattle.qcir_round_trip.proofs.Shapes.{FileFrom}
use Rattle.qcir_round_trip.proofs.Stored.{Built, Sorts, built_matrix}
use Rattle.qcir_round_trip.proofs.Lines.{State, Stands, first_literal, stands_literal, lines_gates, lines_empty}

-- A node's words as they are stored: it ignores no operand, and is well formed if a variable's number is in range.
pub record Plain (w : NodeWords) : Type 0 where
  pub used : used_operands (node_of [] w) ≡ operands (node_of [] w)
  pub no_block : is_block_kind w.kind ≡ false
  pub formed : (nodes most : ℕ) → ((x : ℕ) → node_of [] w ≡ variable x → is_number_to most x ≡ true)
      → well_formed (matrix_within nodes most) w ≡ true

plain_sorts : Sorts Plain
unfolding node_of words_of pick operands used_operands row row_in rows row_operands is_block_kind well_formed digit
plain_sorts =
    record {
      a_constant = record { used = refl; no_block = refl; formed = λ n m h. refl };
      a_variable = λ x. record { used = refl; no_block = refl; formed = λ n m h. rw (h x refl) };
      a_negation = λ a. record { used = refl; no_block = refl; formed = λ n m h. refl };
      an_and = λ a b. record { used = refl; no_block = refl; formed = λ n m h. refl };
      a_xor = λ a b. record { used = refl; no_block = refl; formed = λ n m h. refl };
    }

module _ (f : File) (first : ℕ) (from : FileFrom first f) where
  built : Built Plain (store_matrix f).draft
  built = built_matrix Plain plain_sorts first f from.shapes

  pub matrix_whole : length (matrix_words f) ≡ width * node_count (matrix_words f)
  unfolding matrix_words
  matrix_whole = built.whole

  pub matrix_plain : (i : ℕ) → i < node_count (matrix_words f) → Plain (words_at (matrix_words f) i)
  unfolding matrix_words
  matrix_plain = built.each

  list_none : matrix_list f ≡ []
  unfolding matrix_list
  list_none = built.none

  pub stored_tree : Tree (table_of (matrix_words f) [])
  stored_tree = rw list_none at (matrix_tree f from.placed from.once)

  pub stored_written : (i : ℕ) → i < node_count (matrix_words f) → written (table_of (matrix_words f) []) i ≡ true
  unfolding table_of node_at
  stored_written = every_written (table_of (matrix_words f) []) stored_tree (λ i h. (matrix_plain i h).used)

  pub stored_no_block : (i : ℕ) → i < node_count (matrix_words f) → is_block (node_at (matrix_words f) [] i) ≡ false
  stored_no_block i h = is_block_lem (matrix_words f) [] i ∙ (matrix_plain i h).no_block

  -- the gate lines, then the output
  abbrev gates_draft : Draft
  gates_draft = store_gates empty_draft f.gates

  whole_first : First (matrix_words f) (store_matrix f).draft.words
  unfolding matrix_words
  whole_first = ([], sym (append-nil _))

  gates_first : First (matrix_words f) gates_draft.words
  unfolding store_matrix
  gates_first = first_literal gates_draft f.output whole_first

  gates_state : State (matrix_words f) first stored_tree stored_written gates_draft f.gates
  gates_state =
      lines_gates (matrix_words f) first stored_tree stored_written first [] f.gates (omega arith) from.shapes empty_draft gates_first
      (lines_empty (matrix_words f) first stored_tree stored_written)

  output_stands : Stands (matrix_words f) first stored_tree stored_written f.gates f.output (store_matrix f)
  unfolding store_matrix
  output_stands =
      stands_literal (matrix_words f) first stored_tree stored_written gates_draft f.gates f.output from.output
      whole_first gates_state

  pub gates_again : gates_of (table_of (matrix_words f) []) first ≡ f.gates
  unfolding gates_of table_of matrix_words
  gates_again = output_stands.state.lines

  pub output_again : node_literal_of (table_of (matrix_words f) []) first (node_count (matrix_words f) - 1) ≡ f.output
  output_again = rw (matrix_root f from.placed from.once) output_stands.stands
