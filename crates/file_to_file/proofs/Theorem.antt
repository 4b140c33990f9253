-- The theorems from file to file, and from file to clauses.
-- Assumes nothing.
use mathlib.Core.Path.{◌≡◌, sym, ◌∙◌}
use mathlib.Core.List.{List}
use Prim.Native.Nat.{ℕ}
use native.Mathlib.Omega.{arith}
use lib.ListN.{take}
use Rattle.formula.specs.Words.{table_of}
use Rattle.formula.specs.Valuation.{Valuation}
use Rattle.formula.specs.Form.{form_truth}
use Rattle.refusals.specs.Verdict.{refusal}
use Rattle.refusals.specs.Outcome.{Outcome, refused}
use Rattle.prenex_form.specs.Matrix.{written_nodes}
use Rattle.prenex_form.specs.Prefix.{written_prefix, written_variables}
use Rattle.prenex_form.proofs.Theorem.{prenex}
use Rattle.qcir.specs.File.{File}
use Rattle.qcir.specs.Spelling.{Spells}
use Rattle.qcir.specs.Meaning.{file_truth}
use Rattle.qcir.specs.FromText.{limits, refused_text, too_long, misspelled, spelled}
use Rattle.qcir.specs.Reading.{Written, Buffers, Reading, TableOf, TableWritten}
use Rattle.qcir_reader.proofs.Texts.{done_table}
use Rattle.qcir_round_trip.proofs.Theorem.{text_written}
use Rattle.qdimacs_form.proofs.Theorem.{clauses_written}
use Rattle.file_to_file.specs.FileToFile.{lifted_text, SameTruth, FileToFile}
use Rattle.file_to_file.specs.FileToClauses.{lifted_clauses, SameAnswer, FileToClauses}
use Rattle.file_to_file.proofs.Passes.{lift_passes}

-- The file that a text was read as, and its table.
pub record Read (text ws ls : List ℕ) : Type 0 where
  pub file : File
  pub spells : Spells limits.names text file
  pub table : TableOf limits.names text ws ls

pub was_read : (text : List ℕ) (before : Buffers) (o : Outcome Written Buffers) → Reading limits text before o → o.answer.verdict.number ≡ 0
    → Read text (take o.answer.sizes.words o.buffers.words) (take o.answer.sizes.entries o.buffers.list)
unfolding refused_text refused refusal TableWritten limits
was_read text before _ (too_long l) zero = absurd (omega (arith, zero))
was_read text before _ (misspelled l p fault) zero = absurd (omega (arith, zero))
was_read text before _ (spelled l f s) zero =
    record { file = f; spells = s; table = done_table text f before.words before.list s zero }

module _ (text ws ls : List ℕ) (r : Read text ws ls) where
  abbrev nodes : List ℕ
  nodes = written_nodes (table_of ws ls)

  abbrev prefix : List ℕ
  prefix = written_prefix (table_of ws ls)

  abbrev variables : List ℕ
  variables = written_variables (table_of ws ls)

  -- A lift has the truth value of the file, under every valuation.
  lifted_truth : (v : Valuation) → form_truth nodes prefix variables v ≡ file_truth r.file v
  lifted_truth v = (prenex ws ls r.table.accepts).same_truth v ∙ r.table.truth_kept r.file r.spells v

  pub from_table : SameTruth text (lifted_text ws ls)
  unfolding lifted_text
  from_table =
      let written = text_written nodes prefix variables (lift_passes (table_of ws ls) _ _ _ (prenex ws ls r.table.accepts)) in
      record {
        source = r.file;
        source_spelled = r.spells;
        target = written.file;
        target_spelled = written.spells;
        target_only = written.only;
        same_truth = λ v. written.same_truth v ∙ lifted_truth v;
      }

  pub clauses_from_table : SameAnswer text (lifted_clauses ws ls)
  unfolding lifted_clauses
  clauses_from_table =
      let written = clauses_written nodes prefix variables (lift_passes (table_of ws ls) _ _ _ (prenex ws ls r.table.accepts)) in
      record {
        source = r.file;
        source_spelled = r.spells;
        target = written.problem;
        target_said = written.says;
        target_only = written.only;
        truth = λ v. (
          λ h. let u = (written.truth v).0 h in (u.0, sym (lifted_truth u.0) ∙ u.1),
          λ u. (written.truth v).1 (u.0, lifted_truth u.0 ∙ u.1),
        );
      }

pub file_to_file : FileToFile
file_to_file text before o reading zero = from_table text _ _ (was_read text before o reading zero)

pub file_to_clauses : FileToClauses
file_to_clauses text before o reading zero = clauses_from_table text _ _ (was_read text before o reading zero)
