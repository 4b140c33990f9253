-- What is written of a text's table in each of the two formats, and what is owed of it.
-- Assumes nothing.
use Rattle.std.specs.Prelude.{List, ℕ}
use Rattle.form_writer.specs.declared.Format.{Format}
use Rattle.form_writer.specs.declared.Format.TheVariants.{Qcir, Qdimacs}
use Rattle.form_writer.specs.Formats.{room_as}
use Rattle.file_to_file.specs.FileToFile.{lifted_text, SameTruth}
use Rattle.file_to_file.specs.FileToClauses.{lifted_clauses, SameAnswer}

-- The text of the prenex form of a table.
unfoldable pub lifted_as : Format → List ℕ → List ℕ → List ℕ
lifted_as Qcir = lifted_text
lifted_as Qdimacs = lifted_clauses

-- What is owed of it beside the text that was read: the same truth value under every valuation, or the same answer.
unfoldable pub Owed : Format → List ℕ → List ℕ → Type 0
Owed Qcir = SameTruth
Owed Qdimacs = SameAnswer

-- Bytes that are enough for every text: 40,960 nodes, 4,097 prefix blocks and 12,288 prefix variables are the most of a prenex form.
abbrev pub most_bytes : Format → ℕ
most_bytes format = room_as format 40960 4097 12288
