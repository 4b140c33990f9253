-- The pieces of literals, and pieces stored eight bytes at once.
-- Assumes nothing.
use mathlib.Core.Bool.{true, false}
use mathlib.Core.List.{List, [], ◌∷◌, ◌++◌, append_assoc}
use mathlib.Core.Path.{◌≡◌, refl, sym, ◌∙◌, ap}
use Prim.Native.Nat.{ℕ, zero, suc, ◌+◌, ◌*◌, ◌-◌, ◌/◌, ◌%◌, ◌≤◌, ◌<◌}
use native.Mathlib.Numerals.{add-one}
use native.Mathlib.Omega.{arith}
use lib.ListN.{length, set, take, drop, length-append, length-take}
use lib.Seq.{take_at, drop-drop}
use borrow.Rule.Slice.PartMut.{put_mid}
use Rattle.std.specs.Int.{w64, to_le_bytes}
use Rattle.lists.specs.Choice.{pick_yes, pick_no}
use Rattle.lists.specs.Parts.{overwrite}
use Rattle.lists.proofs.Overwrite.{length_overwrite, drop_overwrite, sets_overwrite}
use Rattle.texts.specs.Numerals.{digits}
use Rattle.texts.specs.Bounds.{number_bound}
use Rattle.texts.proofs.Put.{put_stored}
use Rattle.qdimacs.specs.Spelling.{literal_word}
use Rattle.qdimacs_form.specs.Clauses.{false_at}
use Rattle.qdimacs_words.specs.declared.Piece.{Piece}
use Rattle.qdimacs_words.specs.Words.{low_bytes, word_of, highest_byte, numeral_word, literal_text, PieceHolds, Loose}
use Rattle.qdimacs_words.proofs.Words.{more_bytes, spaced_bytes, spaced_length, spaced_short, bytes_back, word_bytes, word_length, word_held}
use Rattle.qdimacs_words.proofs.Loose.{put_loose}

-- the texts of literals
pub positive_text : (x : ℕ) → literal_text (false_at x false) ≡ digits x ++ (32 ∷ [])
unfolding literal_text literal_word
positive_text x = ap (λ t. t ++ (32 ∷ [])) (pick_no _ _ _ refl)

pub positive_length : (x : ℕ) → length (literal_text (false_at x false)) ≡ length (digits x) + 1
positive_length x = ap length (positive_text x) ∙ spaced_length x

pub negative_text : (x : ℕ) → literal_text (false_at x true) ≡ 45 ∷ (digits x ++ (32 ∷ []))
unfolding literal_text literal_word
negative_text x = ap (λ t. t ++ (32 ∷ [])) (pick_yes _ _ _ refl)

module _ (x : ℕ) (writable : x < number_bound) (word : ℕ) (same : word ≡ numeral_word x) where
  -- a number's word holds its literal
  pub positive_held : PieceHolds (record { bytes = word % highest_byte; length = word / highest_byte }) (literal_text (false_at x false))
  positive_held =
      rw positive_text
      (record {
        rest = low_bytes (8 - length (digits x ++ (32 ∷ []))) 0;
        held = ap (λ w. low_bytes 8 (w % highest_byte)) same ∙ word_held x writable;
        sized = ap (λ w. w / highest_byte) same ∙ word_length x writable;
      })

  pub positive_short : word / highest_byte ≤ 7
  positive_short = omega (arith, ap (λ w. w / highest_byte) same, word_length x writable, spaced_short x writable)

  -- and, with a minus sign before it, the opposite one
  minus_word : word % highest_byte * 256 + 45 ≡ word_of (45 ∷ (digits x ++ (32 ∷ [])))
  unfolding word_of
  minus_word = omega (arith, ap (λ w. w % highest_byte) same, word_bytes x writable)

  pub negative_held : PieceHolds (record { bytes = word % highest_byte * 256 + 45; length = word / highest_byte + 1 }) (literal_text (false_at x true))
  negative_held =
      rw negative_text
      (record {
        rest = low_bytes (8 - length (45 ∷ (digits x ++ (32 ∷ [])))) 0;
        held = ap (low_bytes 8) minus_word ∙ bytes_back 8 _ (more_bytes 45 (omega arith) (spaced_bytes x)) (omega (arith, spaced_short x writable));
        sized = omega (arith, ap (λ w. w / highest_byte) same, word_length x writable);
      })

-- The eight bytes of a word, each by one division.
eight_bytes : (w : ℕ) → low_bytes 8 w ≡ to_le_bytes w64 w
unfolding low_bytes
eight_bytes w =
    let b2 : w / 256 / 256 ≡ w / 65536 = omega arith in
    let b3 : w / 256 / 256 / 256 ≡ w / 16777216 = omega arith in
    let b4 : w / 256 / 256 / 256 / 256 ≡ w / 4294967296 = omega arith in
    let b5 : w / 256 / 256 / 256 / 256 / 256 ≡ w / 1099511627776 = omega arith in
    let b6 : w / 256 / 256 / 256 / 256 / 256 / 256 ≡ w / 281474976710656 = omega arith in
    let b7 : w / 256 / 256 / 256 / 256 / 256 / 256 / 256 ≡ w / 72057594037927936 = omega arith in
    λ i. w % 256 ∷ w / 256 % 256 ∷ b2 i % 256 ∷ b3 i % 256 ∷ b4 i % 256 ∷ b5 i % 256 ∷ b6 i % 256 ∷ b7 i % 256 ∷ []

-- eight bytes in the place of eight
pub word_stored : (out part : List ℕ) (at k w : ℕ) → k ≡ 8 → part ≡ to_le_bytes w64 w → put_mid at k out part ≡ overwrite out at (low_bytes 8 w)
unfolding overwrite
word_stored out part at k w n e =
    rw (e, n, eight_bytes w) (ap (λ t. take at out ++ (to_le_bytes w64 w ++ t)) (drop-drop 8 at out))

-- two stores in a row
pub end_stored : (out : List ℕ) (at a b : ℕ) → at + 10 ≤ length out
    → Loose out at (a ∷ b ∷ []) (set (set out at a) (at + 1) b) (at + 2)
end_stored out at a b fits =
    let n : at + 2 - 2 ≡ at = omega arith in
    let w : set (set out at a) (at + 1) b ≡ overwrite out at (a ∷ b ∷ []) = rw add-one (sets_overwrite out at (a ∷ b ∷ []) (omega arith)) in
    put_loose (put_stored out at (a ∷ b ∷ []) _ (at + 2) refl (omega arith) (w ∙ ap (λ k. overwrite out k (a ∷ b ∷ [])) (sym n)))

length_low : (k w : ℕ) → length (low_bytes k w) ≡ k
unfolding low_bytes
length_low zero w = refl
length_low (suc k) w = ap suc (length_low k (w / 256))

-- A piece stored with what stands behind it in its word.
module _ (before after bytes : List ℕ) (at : ℕ) (p : Piece) (h : PieceHolds p bytes) (short : p.length ≤ 8)
    (room : at + p.length + 8 ≤ length before) (stored : after ≡ overwrite before at (low_bytes 8 p.bytes)) where
  low : length (low_bytes 8 p.bytes) ≡ 8
  low = length_low 8 p.bytes

  fits : at + length (low_bytes 8 p.bytes) ≤ length before
  fits = omega (arith, low)

  front_stored : take (at + p.length) after ≡ take at before ++ bytes
  unfolding overwrite
  front_stored =
      let s : p.length ≡ length bytes = h.sized in
      let l : length (take at before ++ bytes) ≡ at + p.length = simp (length-append, length-take) (omega arith) in
      let tail : List ℕ = drop (at + length (low_bytes 8 p.bytes)) before in
      let e : after ≡ (take at before ++ bytes) ++ (h.rest ++ tail) =
      stored
      ∙ ap (λ t. take at before ++ (t ++ tail)) h.held
      ∙ simp append_assoc in
      ap (take (at + p.length)) e ∙ take_at (take at before ++ bytes) (h.rest ++ tail) (at + p.length) l

  pub piece_stored : Loose before at bytes after (at + p.length)
  piece_stored =
      record {
        counted = ap (λ n. at + n) h.sized;
        kept = ap length stored ∙ length_overwrite before at (low_bytes 8 p.bytes) fits;
        front = λ _. front_stored;
        back = λ _.
            ap (drop (at + p.length + 8)) stored
            ∙ drop_overwrite before at (low_bytes 8 p.bytes) fits (at + p.length + 8) (omega (arith, low));
      }

-- a number and the space behind it, stored as the piece of a literal
pub name_stored : {before after : List ℕ} {at r next : ℕ} (x : ℕ) → next ≡ r → Loose before at (literal_text (false_at x false)) after r
    → Loose before at (digits x ++ (32 ∷ [])) after next
name_stored x e a = rw (e, ← positive_text x) a
