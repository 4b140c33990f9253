-- What the text of a file says. Each law is proved under the name beside it in proofs/Says.antt.
-- Assumes nothing.
use Rattle.std.specs.Prelude.{Bool, true, ◌&&◌, List, [], ◌∷◌, ◌≡◌, ℕ, leb}
use Rattle.qcir.specs.File.{File}
use Rattle.qcir.specs.Spelling.{Sign, word, name, newline, file_signs}
use Rattle.qcir.specs.Unbounded.{names_up_to}
use Rattle.qcir.specs.Positions.{Says}
use Rattle.qcir_text.specs.Text.{file_text}

-- Every name among the signs is from 1 up.
unfoldable pub names_from_one : List Sign → Bool
names_from_one [] = true
names_from_one (word w ∷ ss) = names_from_one ss
names_from_one (name x ∷ ss) = leb 1 x.number && names_from_one ss
names_from_one (newline ∷ ss) = names_from_one ss

-- A file's text says the file, if its names are from 1 up and none is above the limit (text_says).
abbrev pub TextSays : Type 0
TextSays =
    (most : ℕ) (f : File) → names_from_one (file_signs f) ≡ true → names_up_to most (file_signs f) ≡ true
    → Says most (file_text f) f
