-- The text of a growth report (request S-13).
-- Assumes nothing.
use mathlib.Core.List.{List, [], ◌∷◌, ◌++◌, flat_map}
use Rattle.std.specs.Prelude.{ℕ, ◌+◌, ◌*◌, eqb, length}
use Rattle.lists.specs.Choice.{pick}
use Rattle.refusals.specs.Verdict.{refusal, accepted}
use Rattle.refusals.specs.declared.Verdict.{Verdict}
use Rattle.refusals.specs.Outcome.{Outcome}
use Rattle.texts.specs.Numerals.{digits}
use Rattle.form_texts.specs.Writing.{text_outcome}
use Rattle.growth.specs.declared.Line.{Line}
use Rattle.growth.specs.Lines.{line_width, line_at, line_figures}
use Rattle.growth.specs.Totals.{totals, total_figures}
use Rattle.name_lines.specs.Names.{line_end, names, names_verdict}

-- A figure and the space before it: "single spaces between".
unfoldable pub figure_text : ℕ → List ℕ
figure_text x = 32 ∷ digits x

-- A line of a word and figures.
unfoldable pub line_text : List ℕ → List ℕ → List ℕ
line_text word figures = word ++ (flat_map figure_text figures ++ (line_end ∷ []))

-- "prints for each: name, refusal number, n, b, q, depth, nodes written, prefix variables": of the first of these names line i, and so on.
unfoldable pub name_lines : List (List ℕ) → (ℕ → Line) → ℕ → List ℕ
name_lines [] ls i = []
name_lines (name ∷ ns) ls i = line_text name (line_figures (ls i)) ++ name_lines ns ls (i + 1)

-- `total` in ASCII
abbrev pub total_word : List ℕ
total_word = 116 ∷ 111 ∷ 116 ∷ 97 ∷ 108 ∷ []

-- "The last line is `total`, files read .., files with a refusal .., the six sums, and the written and input nodes of the file that grew
-- most."
unfoldable pub report_text : List (List ℕ) → (ℕ → Line) → List ℕ
report_text ns ls = name_lines ns ls 0 ++ line_text total_word (total_figures (totals ls (length ns)))

-- Refused as the names are, then by 1 if there is not one line of figures for each name.
unfoldable pub report_verdict : List (List ℕ) → List ℕ → Verdict
report_verdict ns ws =
    pick (eqb (names_verdict ns).number 0) (pick (eqb (length ws) (line_width * length ns)) accepted (refusal 1 0)) (names_verdict ns)

-- What is answered and left in the buffer: then 9, then the text.
unfoldable pub reported : List ℕ → List ℕ → List ℕ → Outcome ℕ (List ℕ)
reported text ws before = text_outcome (report_verdict (names text) ws) (report_text (names text) (line_at ws)) before
