-- What is owed of a text that is written for a form. That it holds of the text of every form that neither 14 nor 15 refuses is the theorem
-- `text_written` (crates/qcir_round_trip/proofs/Theorem.antt).
-- Assumes nothing.
use Rattle.std.specs.Prelude.{List, [], ◌≡◌, ℕ}
use Rattle.formula.specs.Valuation.{Valuation}
use Rattle.formula.specs.Form.{form_truth}
use Rattle.form_check.specs.Verdict.{PassesUnbounded}
use Rattle.qcir.specs.File.{File}
use Rattle.qcir.specs.Meaning.{file_truth}
use Rattle.qcir.specs.Refusals.{misplaced, not_used_once, unbound}
use Rattle.qcir.specs.Table.{matrix_words, file_prefix_words, file_prefix_list}
use Rattle.qcir.specs.Unbounded.{SpellsUnbounded}
use Rattle.qcir_form.specs.File.{form_text}

pub record TextOf (ns ps xs text : List ℕ) : Type 0 where
  -- the text spells exactly one file, without a bound on names or length
  pub file : File
  pub spells : SpellsUnbounded text file
  pub only : (g : File) → SpellsUnbounded text g → g ≡ file
  -- S-1's refusals 11, 13 and 12 do not apply to it
  pub placed : misplaced file ≡ []
  pub used_once : not_used_once file ≡ []
  pub bound : unbound file ≡ []
  -- "The file has the form's truth value under every setting."
  pub same_truth : (v : Valuation) → file_truth file v ≡ form_truth ns ps xs v
  -- "Read back by S-1's steps, prefix lines kept as prefix, and written again, both without limits on length, names, nodes and variables,
  -- it gives the same bytes", the form read back passing the tests of 14 and 15 without their limits.
  pub passes_again : PassesUnbounded (matrix_words file) (file_prefix_words file) (file_prefix_list file)
  pub same_bytes : form_text (matrix_words file) (file_prefix_words file) (file_prefix_list file) ≡ text
