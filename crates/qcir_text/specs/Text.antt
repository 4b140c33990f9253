-- The text of a QCIR file as it is written (request S-5): its signs one after the other, in the order of the grammar.
-- Assumes nothing.
use Rattle.std.specs.Prelude.{Bool, false, List, [], ◌∷◌, ◌++◌, ℕ, eqb}
use Rattle.lists.specs.Choice.{pick}
use Rattle.qcir.specs.File.{File}
use Rattle.qcir.specs.Spelling.{Sign, word, name, newline, header, file_signs}
use Rattle.texts.specs.Numerals.{digits}

-- The word is this one byte.
unfoldable pub is_byte : ℕ → List ℕ → Bool
is_byte b [] = false
is_byte b (c ∷ []) = eqb b c
is_byte b (c ∷ d ∷ w) = false

-- "one space follows a comma and stands on each side of `=`, no other"
unfoldable pub word_text : List ℕ → List ℕ
word_text w =
    pick (is_byte 44 w) (44 ∷ 32 ∷ [])
    (pick (is_byte 61 w) (32 ∷ 61 ∷ 32 ∷ [])
    w)

-- A name is written in decimal; "Each line ends in LF".
unfoldable pub sign_text : Sign → List ℕ
sign_text (word w) = word_text w
sign_text (name x) = digits x.number
sign_text newline = 10 ∷ []

unfoldable pub signs_text : List Sign → List ℕ
signs_text [] = []
signs_text (s ∷ ss) = sign_text s ++ signs_text ss

-- "header without a count", and the lines after it.
unfoldable pub file_text : File → List ℕ
file_text f = header ++ signs_text (newline ∷ file_signs f)
