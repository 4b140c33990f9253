-- Which texts are files (request S-1; QCIR-G14). A file is a sequence of signs; a text spells them one after the other.
-- Assumes nothing.
use Rattle.std.specs.Prelude.{Bool, true, false, ◌&&◌, ◌||◌, List, [], ◌∷◌, ◌++◌, ◌≡◌, ℕ, suc, ◌+◌, ◌≤◌, ◌<◌, length, take}
use Rattle.lists.specs.Choice.{pick}
use Rattle.lists.specs.Members.{mem, all}
use Rattle.formula.specs.Node.{Quantifier, exists, for_all}
unfoldable pub use Rattle.texts.specs.Numerals.{is_space, is_digit, is_numeral, value_from}
use Rattle.qcir.specs.File.{Name, Literal, Junction, conjunction, disjunction, Gate, junction_gate, xor_gate, quantifier_gate, Line, File}

-- A keyword or a sign such as a comma, by its bytes; a name; the end of a line.
pub data Sign : Type 0 where
  word : List ℕ → Sign
  name : Name → Sign
  newline : Sign

-- The keywords, "in lower case", and the signs, in ASCII.
abbrev pub free_word : List ℕ
free_word = 102 ∷ 114 ∷ 101 ∷ 101 ∷ []

abbrev pub output_word : List ℕ
output_word = 111 ∷ 117 ∷ 116 ∷ 112 ∷ 117 ∷ 116 ∷ []

abbrev pub and_word : List ℕ
and_word = 97 ∷ 110 ∷ 100 ∷ []

abbrev pub or_word : List ℕ
or_word = 111 ∷ 114 ∷ []

abbrev pub xor_word : List ℕ
xor_word = 120 ∷ 111 ∷ 114 ∷ []

abbrev pub exists_word : List ℕ
exists_word = 101 ∷ 120 ∷ 105 ∷ 115 ∷ 116 ∷ 115 ∷ []

abbrev pub forall_word : List ℕ
forall_word = 102 ∷ 111 ∷ 114 ∷ 97 ∷ 108 ∷ 108 ∷ []

abbrev pub opening : List ℕ
opening = 40 ∷ []

abbrev pub closing : List ℕ
closing = 41 ∷ []

abbrev pub comma : List ℕ
comma = 44 ∷ []

abbrev pub semicolon : List ℕ
semicolon = 59 ∷ []

abbrev pub equals : List ℕ
equals = 61 ∷ []

abbrev pub minus_sign : List ℕ
minus_sign = 45 ∷ []

unfoldable pub quantifier_word : Quantifier → List ℕ
quantifier_word exists = exists_word
quantifier_word for_all = forall_word

unfoldable pub junction_word : Junction → List ℕ
junction_word conjunction = and_word
junction_word disjunction = or_word

-- A minus sign may stand before an input or the output's name.
unfoldable pub literal_signs : Literal → List Sign
literal_signs l = pick l.minus (word minus_sign ∷ name l.name ∷ []) (name l.name ∷ [])

-- Names with commas between them.
unfoldable pub names_signs : Name → List Name → List Sign
names_signs x [] = name x ∷ []
names_signs x (y ∷ ys) = name x ∷ word comma ∷ names_signs y ys

-- Inputs with commas between them.
unfoldable pub inputs_signs : Literal → List Literal → List Sign
inputs_signs l [] = literal_signs l
inputs_signs l (m ∷ ms) = literal_signs l ++ (word comma ∷ inputs_signs m ms)

-- Any number of inputs.
unfoldable pub any_inputs_signs : List Literal → List Sign
any_inputs_signs [] = []
any_inputs_signs (l ∷ ls) = inputs_signs l ls

-- A line of a keyword and names.
unfoldable pub list_signs : List ℕ → Name → List Name → List Sign
list_signs keyword x xs = word keyword ∷ word opening ∷ (names_signs x xs ++ (word closing ∷ newline ∷ []))

-- At most one free(..) line.
unfoldable pub free_signs : List Name → List Sign
free_signs [] = []
free_signs (x ∷ xs) = list_signs free_word x xs

-- Any number of exists(..) and forall(..) lines.
unfoldable pub prefix_signs : List Line → List Sign
prefix_signs [] = []
prefix_signs (l ∷ ls) = list_signs (quantifier_word l.quantifier) l.first l.others ++ prefix_signs ls

-- One output(..) line.
unfoldable pub output_signs : Literal → List Sign
output_signs l = word output_word ∷ word opening ∷ (literal_signs l ++ (word closing ∷ newline ∷ []))

-- g = and(..) and g = or(..) with any number of inputs, g = xor(..) with two, g = exists(..; ..) and g = forall(..; ..) with at least one
-- variable and one input.
unfoldable pub gate_signs : Gate → List Sign
gate_signs (junction_gate j g ls) =
    name g ∷ word equals ∷ word (junction_word j) ∷ word opening ∷ (any_inputs_signs ls ++ (word closing ∷ newline ∷ []))
gate_signs (xor_gate g l r) =
    name g ∷ word equals ∷ word xor_word ∷ word opening
    ∷ (literal_signs l ++ (word comma ∷ (literal_signs r ++ (word closing ∷ newline ∷ []))))
gate_signs (quantifier_gate q g x xs l) =
    name g ∷ word equals ∷ word (quantifier_word q) ∷ word opening
    ∷ (names_signs x xs ++ (word semicolon ∷ (literal_signs l ++ (word closing ∷ newline ∷ []))))

unfoldable pub gates_signs : List Gate → List Sign
gates_signs [] = []
gates_signs (g ∷ gs) = gate_signs g ++ gates_signs gs

-- A file after its header line.
unfoldable pub file_signs : File → List Sign
file_signs f = free_signs f.free ++ (prefix_signs f.prefix ++ (output_signs f.output ++ gates_signs f.gates))

-- The text, whose first byte has position p, spells the signs. Names are at most `most`.
pub data Spelled (most : ℕ) : ℕ → List Sign → List ℕ → Type 0 where
  end : {p : ℕ} → Spelled most p [] []
  -- "spaces and tabs around words and signs"
  space : {p b : ℕ} {ss : List Sign} {t : List ℕ} → is_space b ≡ true → Spelled most (suc p) ss t → Spelled most p ss (b ∷ t)
  a_word : {p : ℕ} (w : List ℕ) {ss : List Sign} {t : List ℕ} → Spelled most (p + length w) ss t → Spelled most p (word w ∷ ss) (w ++ t)
  a_name : {p : ℕ} (ds : List ℕ) {ss : List Sign} {t : List ℕ} → is_numeral ds ≡ true → value_from 0 ds ≤ most → Spelled most (p + length ds) ss t → Spelled most p (name (record { number = value_from 0 ds; position = p }) ∷ ss) (ds ++ t)
  -- "A line ends at LF .."
  at_line_end : {p : ℕ} {ss : List Sign} {t : List ℕ} → Spelled most (suc p) ss t → Spelled most p (newline ∷ ss) (10 ∷ t)
  -- "blank lines .. are skipped"
  blank_line : {p : ℕ} {ss : List Sign} {t : List ℕ} → Spelled most (suc p) (newline ∷ ss) t → Spelled most p (newline ∷ ss) (10 ∷ t)
  -- "later lines whose first sign is `#` are skipped": spaces, the sign and any bytes up to LF
  comment_line : {p : ℕ} (gap note : List ℕ) {ss : List Sign} {t : List ℕ} → all is_space gap ≡ true → mem 10 note ≡ false → Spelled most (suc p + (length gap + suc (length note))) (newline ∷ ss) t → Spelled most p (newline ∷ ss) (10 ∷ (gap ++ (35 ∷ (note ++ t))))

-- #QCIR-G14
abbrev pub header : List ℕ
header = 35 ∷ 81 ∷ 67 ∷ 73 ∷ 82 ∷ 45 ∷ 71 ∷ 49 ∷ 52 ∷ []

-- spaces and tabs, then digits
unfoldable pub is_padded : List ℕ → Bool
is_padded [] = true
is_padded (b ∷ bs) = (is_space b && is_padded bs) || (is_digit b && all is_digit bs)

-- "its count, if any, is digits after a space or tab, not judged"
unfoldable pub is_count : List ℕ → Bool
is_count [] = true
is_count (b ∷ bs) = is_space b && is_padded bs

-- The text spells the file: "the header starts at byte 0"; the file's end is read as LF: "A line ends at LF or the file's
-- end".
pub record Spells (most : ℕ) (text : List ℕ) (f : File) : Type 0 where
  pub count : List ℕ
  pub rest : List ℕ
  pub counted : is_count count ≡ true
  pub parts : text ++ (10 ∷ []) ≡ header ++ (count ++ rest)
  pub spelled : Spelled most (length header + length count) (newline ∷ file_signs f) rest

-- Some file "so spelled, of any length," begins with the text.
pub record Viable (most : ℕ) (text : List ℕ) : Type 0 where
  pub more : List ℕ
  pub file : File
  pub spells : Spells most (text ++ more) file

-- "spelling, at the first byte, or the file's end, where no file so spelled, of any length, can go on"
pub data SpellingFault (most : ℕ) (text : List ℕ) : ℕ → Type 0 where
  at_byte : (p : ℕ) → p < length text → Viable most (take p text) → (Viable most (take (suc p) text) → ⊥) → SpellingFault most text p
  at_end : Viable most text → ((f : File) → Spells most text f → ⊥) → SpellingFault most text (length text)
