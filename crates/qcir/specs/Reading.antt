-- What reading a text answers and leaves in the two lent buffers (request S-1).
-- Assumes nothing.
use Rattle.std.specs.Prelude.{◌||◌, List, ◌≡◌, ℕ, ◌≤◌, ltb, length, take}
use Rattle.lists.specs.Parts.{overwrite}
use Rattle.formula.specs.Words.{table_of}
use Rattle.formula.specs.Valuation.{Valuation}
use Rattle.formula.specs.Truth.{truth}
use Rattle.refusals.specs.Verdict.{accepted}
use Rattle.refusals.specs.Outcome.{Outcome, done, unless_short}
use Rattle.acceptance.specs.Verdict.{verdict}
use Rattle.qcir.specs.File.{File}
use Rattle.qcir.specs.Spelling.{Spells}
use Rattle.qcir.specs.Meaning.{file_truth}
use Rattle.qcir.specs.FromText.{Limits, of_table, of_file, FromText, OnlyFromText, OneOutcome}

-- The sizes of an answer: "the words .. written, buffer by buffer".
pub record Written : Type 0 where
  pub words : ℕ
  pub entries : ℕ

-- The two lent buffers.
pub record Buffers : Type 0 where
  pub words : List ℕ
  pub list : List ℕ

abbrev pub buffers : List ℕ → List ℕ → Buffers
buffers words list = record { words = words; list = list }

-- "On refusal all sizes .. are 0."
unfoldable pub none_written : Written
none_written = record { words = 0; entries = 0 }

-- The table's words at the buffers' starts; "words after the last one written keep their content".
unfoldable pub done_with : List ℕ → List ℕ → Buffers → Outcome Written Buffers
done_with ws ls before =
    record {
      answer = done (record { words = length ws; entries = length ls });
      buffers = buffers (overwrite before.words 0 ws) (overwrite before.list 0 ls);
    }

-- ".. and 9": what comes of the file's table.
unfoldable pub stored : Buffers → List ℕ → List ℕ → Outcome Written Buffers
stored before ws ls =
    unless_short (ltb (length before.words) (length ws) || ltb (length before.list) (length ls)) none_written before
    (done_with ws ls before)

-- Of a file; and of its table, where 11, 13 and 12 do not apply.
abbrev pub file_outcome : Limits → File → Buffers → Outcome Written Buffers
file_outcome lim f before = of_file lim none_written before (stored before) f

abbrev pub table_outcome : Limits → File → Buffers → Outcome Written Buffers
table_outcome lim f before = of_table lim none_written before (stored before) f

-- What reading a text does.
abbrev pub Reading : Limits → List ℕ → Buffers → Outcome Written Buffers → Type 0
Reading lim text before o = FromText lim none_written before (stored before) text o

-- The outcome is the only one that reading the text has.
abbrev pub Only : Limits → List ℕ → Buffers → Outcome Written Buffers → Type 0
Only lim text before o = OnlyFromText lim none_written before (stored before) text o

-- Every text is read, and in one way, within any limits that allow a name (`every_text_read`, qcir_reader's proofs/Unique.antt).
abbrev pub EveryTextRead : Type 0
EveryTextRead = (lim : Limits) (text : List ℕ) (before : Buffers) → 1 ≤ lim.names → OneOutcome lim none_written before (stored before) text

-- What a table read from a text promises: the checker accepts it, and "The table has the file's truth value under every setting of
-- its free variables".
pub record TableOf (most : ℕ) (text ws ls : List ℕ) : Type 0 where
  pub accepts : verdict ws ls ≡ accepted
  pub truth_kept : (f : File) → Spells most text f → (v : Valuation) → truth (table_of ws ls) v ≡ file_truth f v

-- If done, it is promised of what stands at the buffers' starts, as far as the sizes say.
unfoldable pub TableWritten : ℕ → List ℕ → Outcome Written Buffers → Type 0
TableWritten most text o =
    let sizes = o.answer.sizes in
    let held = o.buffers in
    o.answer.verdict.number ≡ 0 → TableOf most text (take sizes.words held.words) (take sizes.entries held.list)
