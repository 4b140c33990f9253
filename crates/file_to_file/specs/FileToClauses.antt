-- The chain from a QCIR file to clauses: reading (request S-1), lifting (document 01) and writing as QDIMACS (request S-7), each by its own
-- definition. The theorem `file_to_clauses` is proved in proofs/Theorem.antt.
-- Assumes nothing.
use Rattle.std.specs.Prelude.{List, ◌≡◌, ℕ, take}
use Rattle.formula.specs.Words.{table_of}
use Rattle.refusals.specs.Outcome.{Outcome}
use Rattle.prenex_form.specs.Matrix.{written_nodes}
use Rattle.prenex_form.specs.Prefix.{written_prefix, written_variables}
use Rattle.qcir.specs.File.{File}
use Rattle.qcir.specs.Spelling.{Spells}
use Rattle.qcir.specs.Meaning.{file_truth}
use Rattle.qcir.specs.FromText.{limits}
use Rattle.qcir.specs.Reading.{Written, Buffers, Reading}
use Rattle.qdimacs.specs.Problem.{Problem}
use Rattle.qdimacs.specs.Spelling.{Says}
use Rattle.qdimacs_form.specs.Clauses.{clauses_text}
use Rattle.qdimacs_form.specs.Laws.{TrueIfSatisfiable}

-- The QDIMACS text of the prenex form of a table.
unfoldable pub lifted_clauses : List ℕ → List ℕ → List ℕ
lifted_clauses ws ls = let t = table_of ws ls in clauses_text (written_nodes t) (written_prefix t) (written_variables t)

-- One text is a QCIR file, the other says one QDIMACS problem, and this is true exactly if some valuation of the file's free variables makes the
-- file true.
pub record SameAnswer (text lifted : List ℕ) : Type 0 where
  pub source : File
  pub source_spelled : Spells limits.names text source
  pub target : Problem
  pub target_said : Says lifted target
  pub target_only : (q : Problem) → Says lifted q → q ≡ target
  pub truth : TrueIfSatisfiable target (file_truth source)

-- Whatever text was read, the table that stands in the buffers, lifted and written as QDIMACS, gives such a text (file_to_clauses).
abbrev pub FileToClauses : Type 0
FileToClauses =
    (text : List ℕ) (before : Buffers) (o : Outcome Written Buffers) → Reading limits text before o → o.answer.verdict.number ≡ 0
    → SameAnswer text
    (lifted_clauses (take o.answer.sizes.words o.buffers.words) (take o.answer.sizes.entries o.buffers.list))
