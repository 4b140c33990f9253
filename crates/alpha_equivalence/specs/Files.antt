-- Two QCIR files whose prenex forms are equal (request S-12): what the tool's answer "same" says of them.
-- Assumes nothing.
use Rattle.std.specs.Prelude.{List, ◌≡◌, ℕ, take}
use Rattle.formula.specs.Node.{Table}
use Rattle.formula.specs.Words.{table_of}
use Rattle.formula.specs.Valuation.{Valuation}
use Rattle.refusals.specs.Outcome.{Outcome}
use Rattle.prenex.specs.Outcome.{written_form}
use Rattle.qcir.specs.File.{File}
use Rattle.qcir.specs.Spelling.{Spells}
use Rattle.qcir.specs.Meaning.{file_truth}
use Rattle.qcir.specs.FromText.{limits}
use Rattle.qcir.specs.Reading.{Written, Buffers, Reading}

-- The table that a reading leaves in the buffers.
abbrev pub table_read : Outcome Written Buffers → Table
table_read o = table_of (take o.answer.sizes.words o.buffers.words) (take o.answer.sizes.entries o.buffers.list)

-- Whatever two texts were read, if the forms of their tables are equal, the files that they spell have the same truth value under every
-- valuation. The theorem `equal_files` (proofs/Theorem.antt).
abbrev pub EqualFiles : Type 0
EqualFiles =
    (text text' : List ℕ) (before before' : Buffers) (o o' : Outcome Written Buffers)
    → Reading limits text before o → o.answer.verdict.number ≡ 0
    → Reading limits text' before' o' → o'.answer.verdict.number ≡ 0
    → written_form (table_read o) ≡ written_form (table_read o')
    → (f g : File) → Spells limits.names text f → Spells limits.names text' g
    → (v : Valuation) → file_truth f v ≡ file_truth g v
