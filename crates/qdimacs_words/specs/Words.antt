-- Numbers with a space behind them as the bytes of one 64-bit word, and eight bytes stored at once: of a piece shorter than that, what
-- follows is stored over later.
-- Assumes nothing.
use Rattle.std.specs.Prelude.{List, [], ◌∷◌, ◌++◌, ◌≡◌, ℕ, zero, suc, ◌+◌, ◌*◌, ◌/◌, ◌%◌, ◌≤◌, length, take, drop}
use Rattle.texts.specs.Numerals.{digits}
use Rattle.qdimacs.specs.Problem.{Literal}
use Rattle.qdimacs.specs.Spelling.{literal_word}
use Rattle.qdimacs_words.specs.declared.Piece.{Piece}

-- The lowest k bytes of a word, the lowest first; and the word that bytes make.
unfoldable pub low_bytes : ℕ → ℕ → List ℕ
low_bytes zero w = []
low_bytes (suc k) w = w % 256 ∷ low_bytes k (w / 256)

unfoldable pub word_of : List ℕ → ℕ
word_of [] = 0
word_of (b ∷ bs) = b + 256 * word_of bs

-- The place of a word's highest byte.
abbrev pub highest_byte : ℕ
highest_byte = 72057594037927936

-- A number and the space behind it: the bytes from the lowest up, and how many these are in the highest byte.
unfoldable pub numeral_word : ℕ → ℕ
numeral_word x = word_of (digits x ++ (32 ∷ [])) + highest_byte * (length (digits x) + 1)

-- A literal and the space behind it.
unfoldable pub literal_text : Literal → List ℕ
literal_text l = literal_word l ++ (32 ∷ [])

-- The word's lowest bytes are these, and this many they are.
pub record PieceHolds (p : Piece) (bytes : List ℕ) : Type 0 where
  pub rest : List ℕ
  pub held : low_bytes 8 p.bytes ≡ bytes ++ rest
  pub sized : p.length ≡ length bytes

-- What a call leaves in a lent buffer that puts a piece at an index of it and hands back the index after the piece, if eight bytes after
-- the piece may be spoilt: before them the piece stands where it was put, behind them all is as it was. A piece that does not fit with
-- these eight bytes is counted all the same.
pub record Loose (before : List ℕ) (at : ℕ) (piece after : List ℕ) (next : ℕ) : Type 0 where
  pub counted : next ≡ at + length piece
  pub kept : length after ≡ length before
  pub front : next + 8 ≤ length before → take next after ≡ take at before ++ piece
  pub back : next + 8 ≤ length before → drop (next + 8) after ≡ drop (next + 8) before
