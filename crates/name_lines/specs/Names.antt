-- The names in a text (request S-13): "up to 256 names .., one a line, empty lines skipped". A name is any bytes but LF.
-- Assumes nothing.
use Rattle.std.specs.Prelude.{Bool, false, ◌||◌, List, [], ◌∷◌, ◌++◌, ℕ, eqb, ltb, length}
use Rattle.lists.specs.Choice.{pick}
use Rattle.refusals.specs.Verdict.{refusal, accepted}
use Rattle.refusals.specs.declared.Verdict.{Verdict}
use Rattle.refusals.specs.Outcome.{AnswerWith, done, answer_unless_refused}
use Rattle.name_lines.specs.declared.Answer.{Answer}

abbrev pub line_end : ℕ
line_end = 10

-- The name in a line: none if it is empty.
unfoldable pub ended : List ℕ → List (List ℕ)
ended [] = []
ended (b ∷ line) = (b ∷ line) ∷ []

-- The names in a text that goes on from a line begun; the last line with or without LF.
unfoldable pub names_from : List ℕ → List ℕ → List (List ℕ)
names_from line [] = ended line
names_from line (b ∷ text) = pick (eqb b line_end) (ended line ++ names_from [] text) (names_from (line ++ (b ∷ [])) text)

abbrev pub names : List ℕ → List (List ℕ)
names text = names_from [] text

-- Some name is over 255 bytes.
unfoldable pub some_long : List (List ℕ) → Bool
some_long [] = false
some_long (name ∷ ns) = ltb 255 (length name) || some_long ns

-- "20 over 256 names, then 21 a name over 255 bytes": the verdict on so many names, some of them long or none.
unfoldable pub judged : ℕ → Bool → Verdict
judged count long = pick (ltb 256 count) (refusal 20 0) (pick long (refusal 21 0) accepted)

abbrev pub names_verdict : List (List ℕ) → Verdict
names_verdict ns = judged (length ns) (some_long ns)

abbrev pub answer_of : Answer → AnswerWith ℕ
answer_of a = record { verdict = a.verdict; sizes = a.count }

-- How many names there are, if they are taken.
unfoldable pub counted : List (List ℕ) → AnswerWith ℕ
counted ns = answer_unless_refused (names_verdict ns) 0 (done (length ns))
