-- What a text says apart from where it says it. A writer shows `SpellsUnplaced`, which knows no position, and has `Says`.
-- Assumes nothing.
use Rattle.std.specs.Prelude.{List, [], ◌∷◌, ◌++◌, map, ◌↔◌, ◌≡◌, true, false, ℕ, ◌≤◌}
use Rattle.lists.specs.Members.{mem, all}
use Rattle.formula.specs.Valuation.{Valuation}
use Rattle.qcir.specs.File.{Name, Literal, Gate, junction_gate, xor_gate, quantifier_gate, Line, File}
use Rattle.qcir.specs.Spelling.{Sign, word, name, newline, file_signs, is_space, is_numeral, value_from, header, is_count, Spells}
use Rattle.qcir.specs.Meaning.{file_truth}
use Rattle.qcir.specs.Refusals.{misplaced, not_used_once, unbound}
use Rattle.qcir.specs.Table.{table_words, table_list, store_matrix, file_prefix}

-- The name, at position 0.
unfoldable pub unplaced_name : Name → Name
unplaced_name x = record { number = x.number; position = 0 }

-- The literal, its name at position 0.
unfoldable pub unplaced_literal : Literal → Literal
unplaced_literal l = record { minus = l.minus; name = unplaced_name l.name }

-- The gate, its names at position 0.
unfoldable pub unplaced_gate : Gate → Gate
unplaced_gate (junction_gate j g ls) = junction_gate j (unplaced_name g) (map unplaced_literal ls)
unplaced_gate (xor_gate g l r) = xor_gate (unplaced_name g) (unplaced_literal l) (unplaced_literal r)
unplaced_gate (quantifier_gate q g x xs l) = quantifier_gate q (unplaced_name g) (unplaced_name x) (map unplaced_name xs) (unplaced_literal l)

-- The prefix line, its names at position 0.
unfoldable pub unplaced_line : Line → Line
unplaced_line l = record { quantifier = l.quantifier; first = unplaced_name l.first; others = map unplaced_name l.others }

-- The file with every position 0: what it says apart from where.
unfoldable pub unplaced : File → File
unplaced f =
    record {
      free = map unplaced_name f.free;
      prefix = map unplaced_line f.prefix;
      output = unplaced_literal f.output;
      gates = map unplaced_gate f.gates;
    }

-- The text says the file: it spells one that is the same apart from positions.
pub record Says (most : ℕ) (text : List ℕ) (f : File) : Type 0 where
  pub placed : File
  pub spells : Spells most text placed
  pub same : unplaced placed ≡ unplaced f

-- The text spells the signs, at whatever positions their names are: the rules of `Spelled` without the position.
pub data SpelledUnplaced (most : ℕ) : List Sign → List ℕ → Type 0 where
  end : SpelledUnplaced most [] []
  space : {b : ℕ} {ss : List Sign} {t : List ℕ} → is_space b ≡ true → SpelledUnplaced most ss t → SpelledUnplaced most ss (b ∷ t)
  a_word : (w : List ℕ) {ss : List Sign} {t : List ℕ} → SpelledUnplaced most ss t → SpelledUnplaced most (word w ∷ ss) (w ++ t)
  a_name : (x : Name) (ds : List ℕ) {ss : List Sign} {t : List ℕ} → is_numeral ds ≡ true → value_from 0 ds ≡ x.number → x.number ≤ most → SpelledUnplaced most ss t → SpelledUnplaced most (name x ∷ ss) (ds ++ t)
  at_line_end : {ss : List Sign} {t : List ℕ} → SpelledUnplaced most ss t → SpelledUnplaced most (newline ∷ ss) (10 ∷ t)
  blank_line : {ss : List Sign} {t : List ℕ} → SpelledUnplaced most (newline ∷ ss) t → SpelledUnplaced most (newline ∷ ss) (10 ∷ t)
  comment_line : (gap note : List ℕ) {ss : List Sign} {t : List ℕ} → all is_space gap ≡ true → mem 10 note ≡ false → SpelledUnplaced most (newline ∷ ss) t → SpelledUnplaced most (newline ∷ ss) (10 ∷ (gap ++ (35 ∷ (note ++ t))))

-- The text spells the file's signs after a header, at whatever positions: `Spells` without the position.
pub record SpellsUnplaced (most : ℕ) (text : List ℕ) (f : File) : Type 0 where
  pub count : List ℕ
  pub rest : List ℕ
  pub counted : is_count count ≡ true
  pub parts : text ++ (10 ∷ []) ≡ header ++ (count ++ rest)
  pub spelled : SpelledUnplaced most (newline ∷ file_signs f) rest

-- The laws. Those of texts are proved under the names beside them in proofs/Positions.antt, but for `one_said`, which stands in
-- qcir_spelling's proofs/Positions.antt; the others in proofs/Unplaced.antt.

-- A text that spells a file without positions says it (spells_says),
abbrev pub SpellsSays : Type 0
SpellsSays = (most : ℕ) (text : List ℕ) (f : File) → SpellsUnplaced most text f → Says most text f

-- and one that says a file spells it without positions (says_spells).
abbrev pub SaysSpells : Type 0
SaysSpells = (most : ℕ) (text : List ℕ) (f : File) → Says most text f → SpellsUnplaced most text (unplaced f)

-- All files that a text says are the same apart from positions, whatever the limits on names (one_said).
abbrev pub OneSaid : Type 0
OneSaid = (a b : ℕ) (text : List ℕ) (f g : File) → Says a text f → Says b text g → unplaced f ≡ unplaced g

-- To take the positions away again changes nothing (unplaced_again).
abbrev pub UnplacedAgain : Type 0
UnplacedAgain = (f : File) → unplaced (unplaced f) ≡ unplaced f

-- Positions matter neither to a file's truth value (truth_unplaced),
abbrev pub TruthUnplaced : Type 0
TruthUnplaced = (f : File) (v : Valuation) → file_truth (unplaced f) v ≡ file_truth f v

-- nor to refusals 13 and 12 (not_used_once-unplaced, unbound_unplaced),
abbrev pub NotUsedOnceUnplaced : Type 0
NotUsedOnceUnplaced = (f : File) → not_used_once (unplaced f) ≡ not_used_once f

abbrev pub UnboundUnplaced : Type 0
UnboundUnplaced = (f : File) → unbound (unplaced f) ≡ unbound f

-- nor to its table (words_unplaced, list_unplaced),
abbrev pub WordsUnplaced : Type 0
WordsUnplaced = (f : File) → table_words (unplaced f) ≡ table_words f

abbrev pub ListUnplaced : Type 0
ListUnplaced = (f : File) → table_list (unplaced f) ≡ table_list f

-- nor to the two steps of storing it with the prefix lines kept as prefix (matrix_unplaced, blocks_unplaced);
abbrev pub MatrixUnplaced : Type 0
MatrixUnplaced = (f : File) → store_matrix (unplaced f) ≡ store_matrix f

abbrev pub PrefixUnplaced : Type 0
PrefixUnplaced = (f : File) → file_prefix (unplaced f) ≡ file_prefix f

-- of refusal 11 they give the place, not whether there is one (misplaced_unplaced).
abbrev pub MisplacedUnplaced : Type 0
MisplacedUnplaced = (f : File) → (misplaced (unplaced f) ≡ []) ↔ (misplaced f ≡ [])
