-- What is owed of a text holds of the text of every form that neither 14 nor 15 refuses.
-- Assumes nothing.
use mathlib.Core.Path.{◌≡◌, sym, ◌∙◌, ap, subst}
use mathlib.Core.List.{List}
use Prim.Native.Nat.{ℕ, ◌+◌}
use Rattle.formula.specs.Words.{node_count}
use Rattle.acceptance.specs.Limits.{matrix_within}
use Rattle.form_check.specs.Verdict.{PassesUnbounded, form_limits}
use Rattle.form_check.specs.Accepted.{AcceptedFormWithin}
use Rattle.form_check.proofs.Accepted.{form_holds}
use Rattle.qcir.specs.File.{File}
use Rattle.qcir.specs.Meaning.{file_truth}
use Rattle.qcir.specs.Refusals.{misplaced, not_used_once, unbound}
use Rattle.qcir.specs.Table.{store_matrix, matrix_words, file_prefix, file_prefix_words, file_prefix_list}
use Rattle.qcir.specs.Unbounded.{SpellsUnbounded}
use Rattle.qcir.specs.Positions.{unplaced, Says}
use Rattle.qcir.proofs.Unplaced.{truth_unplaced, not_used_once-unplaced, unbound_unplaced, matrix_unplaced, blocks_unplaced, misplaced_unplaced}
use Rattle.qcir_spelling.proofs.Unbounded.{unique_unbounded}
use Rattle.qcir_text.specs.Text.{file_text}
use Rattle.qcir_text.proofs.Says.{text_says}
use Rattle.qcir_form.specs.File.{form_file, form_text}
use Rattle.qcir_form.specs.Promise.{TextOf}
use Rattle.qcir_form.proofs.Truth.{file_truth_lem}
use Rattle.qcir_form.proofs.Placed.{file_placed}
use Rattle.qcir_form.proofs.UsedOnce.{file_used_once}
use Rattle.qcir_form.proofs.Bound.{file_bound}
use Rattle.qcir_form.proofs.Names.{file_from_one, file_up_to}
use Rattle.qcir_round_trip.specs.Laws.{TextPromised}
use Rattle.qcir_round_trip.proofs.Unplaced.{form_unplaced}
use Rattle.qcir_round_trip.proofs.RoundTrip.{round_trip}
use Rattle.qcir_round_trip.proofs.Passes.{passes_again}

-- The file that a text spells, and the one that the text was written of, are the same apart from positions. So what is stored of them is.
words_same : (g f : File) → unplaced g ≡ f → matrix_words g ≡ matrix_words f
unfolding matrix_words
words_same g f e = ap (λ s. s.draft.words) (sym (matrix_unplaced g) ∙ ap store_matrix e)

blocks_same : (g f : File) → unplaced g ≡ f → file_prefix g ≡ file_prefix f
blocks_same g f e = sym (blocks_unplaced g) ∙ ap file_prefix e

prefix_words-same : (g f : File) → unplaced g ≡ f → file_prefix_words g ≡ file_prefix_words f
unfolding file_prefix_words
prefix_words-same g f e = rw (blocks_same g f e)

prefix_list_same : (g f : File) → unplaced g ≡ f → file_prefix_list g ≡ file_prefix_list f
unfolding file_prefix_list
prefix_list_same g f e = rw (blocks_same g f e)

module _ (nodes most : ℕ) (ns ps xs : List ℕ) (form : AcceptedFormWithin (matrix_within nodes most) ns ps xs) where
  abbrev file : File
  file = form_file ns ps xs

  says : Says (most + node_count ns) (file_text file) file
  says = text_says (most + node_count ns) file (file_from_one nodes most ns ps xs form) (file_up_to nodes most ns ps xs form)

  abbrev spelled : File
  spelled = says.placed

  same : unplaced spelled ≡ file
  same = says.same ∙ form_unplaced ns ps xs

  written_text : TextOf ns ps xs (file_text file)
  unfolding form_text
  written_text =
      let w = words_same spelled file same in
      let p = prefix_words-same spelled file same in
      let l = prefix_list_same spelled file same in
      let s : SpellsUnbounded (file_text file) spelled = record { most = most + node_count ns; spells = says.spells } in
      record {
        file = spelled;
        spells = s;
        only = λ g t. unique_unbounded (file_text file) g spelled t s;
        placed = (misplaced_unplaced spelled).0 (ap misplaced same ∙ file_placed nodes most ns ps xs form);
        used_once = sym (not_used_once-unplaced spelled) ∙ ap not_used_once same ∙ file_used_once nodes most ns ps xs form;
        bound = sym (unbound_unplaced spelled) ∙ ap unbound same ∙ file_bound nodes most ns ps xs form;
        same_truth = λ v. sym (truth_unplaced spelled v) ∙ ap (λ g. file_truth g v) same ∙ file_truth_lem nodes most ns ps xs form v;
        passes_again = subst (λ ws. PassesUnbounded ws (file_prefix_words spelled) (file_prefix_list spelled)) (sym w)
            (subst (λ ws. PassesUnbounded (matrix_words file) ws (file_prefix_list spelled)) (sym p)
            (subst (λ ws. PassesUnbounded (matrix_words file) (file_prefix_words file) ws) (sym l) (passes_again nodes most ns ps xs form)));
        same_bytes = ap file_text ((λ i. form_file (w i) (p i) (l i)) ∙ round_trip nodes most ns ps xs form);
      }

pub text_written : TextPromised
unfolding form_text
text_written ns ps xs e = written_text 40960 77823 ns ps xs (form_holds form_limits ns ps xs e)
