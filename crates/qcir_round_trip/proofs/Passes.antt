-- A form's file read back, with the prefix lines kept as prefix, is a form that passes the tests of 14 and 15 without their limits.
-- Assumes nothing.
use mathlib.Core.Path.{◌≡◌, refl, sym, ◌∙◌, ap, subst}
use mathlib.Core.Bool.{true, false}
use mathlib.Core.List.{List, [], map}
use Prim.Native.Nat.{ℕ, ◌*◌, ◌<◌}
use native.Mathlib.Omega.{arith}
use lib.ListN.{length}
use Rattle.lists.specs.Choice.{clash}
use Rattle.lists.specs.Members.{all, distinct}
use Rattle.lists.proofs.Parts.{sum_zero}
use Rattle.formula.specs.Node.{Node, constant, variable, negation, operator, block, is_block, bound}
use Rattle.formula.specs.Words.{node_count, node_at, table_of}
use Rattle.formula.specs.Form.{Block, prefix_width, blocks_of, prefix_words}
use Rattle.formula.specs.Tree.{count, bound_below}
use Rattle.formula.proofs.Prefix.{length-prefix_words}
use Rattle.acceptance.specs.Limits.{matrix_within}
use Rattle.acceptance.specs.Verdict.{is_number_to}
use Rattle.acceptance.specs.Accepted.{AcceptedWithin}
use Rattle.form_check.specs.Verdict.{PassesUnbounded}
use Rattle.form_check.specs.Accepted.{prefix_names, AcceptedFormWithin}
use Rattle.form_check.proofs.Accepted.{holds_form}
use Rattle.acceptance.proofs.Matrix.{MatrixNode, matrix_node}
use Rattle.qcir.specs.File.{File}
use Rattle.qcir.specs.Table.{matrix_words, line_block, file_prefix, file_prefix_words, file_prefix_list}
use Rattle.qcir_form.specs.File.{prefix_lines, matrix_file, form_file}
use Rattle.qcir_form.proofs.Numbers.{occurs_in, occurs_from}
use Rattle.qcir_round_trip.specs.Laws.{PassesAgain}
use Rattle.qcir_round_trip.proofs.PrefixLines.{names_again, words_kinds, words_fit}
use Rattle.qcir_round_trip.proofs.RoundTrip.{again_plain, again_whole, again_written, again_matrix, blocks_are, names_occur}

bound_none : (nd : Node) → is_block nd ≡ false → bound nd ≡ []
unfolding is_block bound
bound_none (constant c) h = refl
bound_none (variable x) h = refl
bound_none (negation a) h = refl
bound_none (operator f a b) h = refl
bound_none (block q xs a) h = clash refl h

module _ (nodes most : ℕ) (ns ps xs : List ℕ) (form : AcceptedFormWithin (matrix_within nodes most) ns ps xs) where
  abbrev file : File
  file = form_file ns ps xs

  abbrev size : ℕ
  size = node_count (matrix_words file)

  abbrev blocks : List Block
  blocks = map line_block (prefix_lines (blocks_of ps xs))

  no_bound : (i : ℕ) → i < size → bound (node_at (matrix_words file) [] i) ≡ []
  unfolding table_of
  no_bound i h = bound_none _ ((again_matrix nodes most ns ps xs form).plain i h)

  -- a number at a variable node stands at one of the form
  in_range : (i : ℕ) → i < size → (x : ℕ) → node_at (matrix_words file) [] i ≡ variable x → is_number_to most x ≡ true
  unfolding table_of
  in_range i h x e =
      let o = occurs_from (table_of ns []) x
      (sym (names_occur nodes most ns ps xs form x)
      ∙ occurs_in (table_of (matrix_words file) []) x i h (again_written nodes most ns ps xs form i h) e) in
      subst (MatrixNode most) o.3 (matrix_node nodes most ns form.matrix o.0 o.1)

  matrix_passes : AcceptedWithin (matrix_within size most) (matrix_words file) []
  unfolding table_of bound_below count distinct all node_at
  matrix_passes =
      record {
        whole = again_whole nodes most ns ps xs form;
        proper = record { tree = (again_matrix nodes most ns ps xs form).tree; apart = λ i h. rw (no_bound i h) };
        nodes_limit = omega arith;
        list_limit = omega arith;
        counts_limit =
            omega (arith, sum_zero (λ i. length (bound (node_at (matrix_words file) [] i))) size (λ i h. ap length (no_bound i h)));
        formed = λ i h. (again_plain nodes most ns ps xs form i h).formed size most (in_range i h);
        fits = λ i h b. clash b (again_plain nodes most ns ps xs form i h).no_block;
        filled = λ e i h b. clash b ((again_matrix nodes most ns ps xs form).plain i h);
        numbered = λ i h. rw (no_bound i h);
      }

  -- the prefix
  words_are : file_prefix_words file ≡ prefix_words 0 blocks
  unfolding file_prefix_words file_prefix form_file matrix_file
  words_are = refl

  list_is : file_prefix_list file ≡ prefix_names blocks
  unfolding file_prefix_list file_prefix form_file matrix_file prefix_names
  list_is = refl

  count_is : length (file_prefix_words file) ≡ prefix_width * length blocks
  count_is = ap length words_are ∙ length-prefix_words 0 blocks

  names_are : prefix_names (blocks_of (file_prefix_words file) (file_prefix_list file)) ≡ prefix_names (blocks_of ps xs)
  names_are = ap prefix_names (blocks_are nodes most ns ps xs form) ∙ names_again (blocks_of ps xs)

  form_passes : AcceptedFormWithin (matrix_within size most) (matrix_words file) (file_prefix_words file) (file_prefix_list file)
  form_passes =
      record {
        matrix = matrix_passes;
        whole = omega (arith, count_is);
        kinds = λ j h. rw words_are (words_kinds 0 blocks j (omega (arith, count_is)));
        fits = λ j h. rw (words_are, list_is) (omega (arith, words_fit 0 blocks j (omega (arith, count_is))));
        numbered = rw names_are form.numbered;
        apart = rw names_are form.apart;
      }

  passes : PassesUnbounded (matrix_words file) (file_prefix_words file) (file_prefix_list file)
  passes =
      record {
        nodes = size;
        highest = most;
        passes = holds_form (matrix_within size most) (matrix_words file) (file_prefix_words file) (file_prefix_list file) form_passes;
      }

pub passes_again : PassesAgain
passes_again = passes
