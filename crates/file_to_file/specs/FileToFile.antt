-- The chain from file to file: reading (request S-1), lifting (document 01) and writing (request S-5), each by its own definition. The
-- theorem `file_to_file` and the law `lift_passes` are proved in proofs/.
-- Assumes nothing.
use Rattle.std.specs.Prelude.{List, ◌≡◌, ℕ, take}
use Rattle.formula.specs.Node.{Table}
use Rattle.formula.specs.Words.{table_of}
use Rattle.formula.specs.Valuation.{Valuation}
use Rattle.refusals.specs.Outcome.{Outcome}
use Rattle.refusals.specs.Verdict.{accepted}
use Rattle.prenex_form.specs.Matrix.{written_nodes}
use Rattle.prenex_form.specs.Prefix.{written_prefix, written_variables}
use Rattle.prenex_form.specs.Promise.{PrenexOf}
use Rattle.form_check.specs.Verdict.{form_verdict}
use Rattle.qcir.specs.File.{File}
use Rattle.qcir.specs.Spelling.{Spells}
use Rattle.qcir.specs.Unbounded.{SpellsUnbounded}
use Rattle.qcir.specs.Meaning.{file_truth}
use Rattle.qcir.specs.FromText.{limits}
use Rattle.qcir.specs.Reading.{Written, Buffers, Reading}
use Rattle.qcir_form.specs.File.{form_text}

-- Every prenex form that lifting may write passes the form check: neither 14 nor 15 refuses it (lift_passes).
abbrev pub LiftPasses : Type 0
LiftPasses = (t : Table) (ns ps xs : List ℕ) → PrenexOf t ns ps xs → form_verdict ns ps xs ≡ accepted

-- The text of the prenex form of a table.
unfoldable pub lifted_text : List ℕ → List ℕ → List ℕ
lifted_text ws ls = let t = table_of ws ls in form_text (written_nodes t) (written_prefix t) (written_variables t)

-- Both texts are files, and these have the same truth value under every valuation.
pub record SameTruth (text lifted : List ℕ) : Type 0 where
  pub source : File
  pub source_spelled : Spells limits.names text source
  pub target : File
  pub target_spelled : SpellsUnbounded lifted target
  pub target_only : (g : File) → SpellsUnbounded lifted g → g ≡ target
  pub same_truth : (v : Valuation) → file_truth target v ≡ file_truth source v

-- Whatever text was read, the table that stands in the buffers, lifted and written, gives such a text (file_to_file).
abbrev pub FileToFile : Type 0
FileToFile =
    (text : List ℕ) (before : Buffers) (o : Outcome Written Buffers) → Reading limits text before o → o.answer.verdict.number ≡ 0
    → SameTruth text
    (lifted_text (take o.answer.sizes.words o.buffers.words) (take o.answer.sizes.entries o.buffers.list))
