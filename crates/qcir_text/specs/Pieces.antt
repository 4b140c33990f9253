-- What the pieces of a file's text are made of.
-- Assumes nothing.
use Rattle.std.specs.Prelude.{Bool, List, [], ◌∷◌, ◌++◌, map, ℕ, ◌/◌, ◌%◌, eqb}
use Rattle.formula.specs.Node.{Quantifier}
use Rattle.qcir.specs.File.{Name, Literal, Line}
use Rattle.qcir.specs.Spelling.{word, newline, opening, closing, comma, literal_signs, names_signs}
use Rattle.qcir_text.specs.Text.{signs_text}
pub use Rattle.texts.specs.Bounds.{AllBelow, number_bound, AllWritable, last_piece, last_line}

-- Names and literals, at position 0.
abbrev pub named : ℕ → Name
named x = record { number = x; position = 0 }

abbrev pub literal : Bool → ℕ → Literal
literal minus x = record { minus = minus; name = named x }

-- The line of a block; none of an empty one.
unfoldable pub list_lines : Quantifier → List ℕ → List Line
list_lines q [] = []
list_lines q (x ∷ xs) = record { quantifier = q; first = named x; others = map named xs } ∷ []

-- A literal held in one word: twice its number, and one more with a minus sign.
unfoldable pub literal_of : ℕ → Literal
literal_of c = literal (eqb (c % 2) 1) (c / 2)

-- Two inputs and the end of their line.
unfoldable pub inputs_text : Literal → Literal → List ℕ
inputs_text l r =
    signs_text (literal_signs l)
    ++ (signs_text (word comma ∷ [])
    ++ (signs_text (literal_signs r)
    ++ signs_text (word closing ∷ newline ∷ [])))

-- Names with commas between them.
unfoldable pub names_text : List ℕ → List ℕ
names_text [] = []
names_text (x ∷ xs) = signs_text (names_signs (named x) (map named xs))

-- A line of a keyword and names as far as its last name; nothing without names.
unfoldable pub open_text : List ℕ → List ℕ → List ℕ
open_text keyword [] = []
open_text keyword (x ∷ xs) = signs_text (word keyword ∷ word opening ∷ []) ++ names_text (x ∷ xs)
