-- Laws of words: their bytes, and the word of a number.
-- Assumes nothing.
use mathlib.Core.Bool.{true, ◌&&◌}
use mathlib.Core.List.{List, [], ◌∷◌, ◌++◌, append_assoc, append-nil}
use mathlib.Core.Path.{◌≡◌, refl, sym, ◌∙◌, ap}
use Prim.Native.Nat.{ℕ, zero, suc, ◌+◌, ◌*◌, ◌-◌, ◌/◌, ◌%◌, ◌≤◌, ◌<◌}
use native.Mathlib.Omega.{arith}
use lib.Dec.{leb}
use lib.ListN.{length, take, length-append}
use lib.Seq.{take_at}
use borrow.Author.Tests.{leb-true}
use Rattle.lists.specs.Choice.{and_left, and_right}
use Rattle.lists.specs.Members.{all}
use Rattle.texts.specs.Numerals.{is_digit, value_from, digits}
use Rattle.texts.specs.Bounds.{number_bound}
use Rattle.texts.proofs.Numerals.{every_digit, digits_value, digits_below_ten, digits_step}
use Rattle.texts.proofs.Lengths.{some_digit, at_most_six}
use Rattle.qdimacs_words.specs.Words.{low_bytes, word_of, highest_byte, numeral_word}

-- Each element is a byte.
pub data Bytes : List ℕ → Type 0 where
  no_byte : Bytes []
  more_bytes : (b : ℕ) {bs : List ℕ} → b < 256 → Bytes bs → Bytes (b ∷ bs)

-- bytes after digits
bytes_after : (ds es : List ℕ) → all is_digit ds ≡ true → Bytes es → Bytes (ds ++ es)
unfolding all is_digit
bytes_after [] es h r = r
bytes_after (d ∷ ds) es h r =
    let high : d ≤ 57 = leb-true d 57 (and_right (leb 48 d) _ (and_left _ _ h)) in
    more_bytes d (omega arith) (bytes_after ds es (and_right (leb 48 d && leb d 57) _ h) r)

-- a number and the space behind it
pub spaced_bytes : (x : ℕ) → Bytes (digits x ++ (32 ∷ []))
spaced_bytes x = bytes_after (digits x) (32 ∷ []) (every_digit x) (more_bytes 32 (omega arith) no_byte)

-- The bytes of the word of bytes are these, and zeros behind them.
pub bytes_back : (k : ℕ) (bs : List ℕ) → Bytes bs → length bs ≤ k → low_bytes k (word_of bs) ≡ bs ++ low_bytes (k - length bs) 0
unfolding low_bytes word_of
bytes_back k [] no_byte h = let n : k ≡ k - 0 = omega arith in ap (λ j. low_bytes j 0) n
bytes_back zero (b ∷ bs) (more_bytes _ l r) h = absurd (omega arith)
bytes_back (suc k) (b ∷ bs) (more_bytes _ l r) h =
    let first : (b + 256 * word_of bs) % 256 ≡ b = omega arith in
    let rest : (b + 256 * word_of bs) / 256 ≡ word_of bs = omega arith in
    let n : k - length bs ≡ suc k - length (b ∷ bs) = omega arith in
    (λ i. first i ∷ low_bytes k (rest i)) ∙ ap (λ t. b ∷ t) (bytes_back k bs r (omega arith)) ∙ ap (λ j. b ∷ (bs ++ low_bytes j 0)) n

-- one byte more is 256 times as much
next_below : (k bound : ℕ) → ((bs : List ℕ) → Bytes bs → length bs ≤ k → word_of bs < bound) → (bs : List ℕ) → Bytes bs
    → length bs ≤ suc k → word_of bs < 256 * bound
unfolding word_of
next_below k bound below [] no_byte h = omega (arith, below [] no_byte (omega arith))
next_below k bound below (b ∷ bs) (more_bytes _ l r) h = omega (arith, below bs r (omega arith))

none_below : (bs : List ℕ) → Bytes bs → length bs ≤ 0 → word_of bs < 1
unfolding word_of
none_below [] no_byte h = omega arith
none_below (b ∷ bs) (more_bytes _ l r) h = absurd (omega arith)

one_below : (bs : List ℕ) → Bytes bs → length bs ≤ 1 → word_of bs < 256
one_below = next_below 0 1 none_below

two_below : (bs : List ℕ) → Bytes bs → length bs ≤ 2 → word_of bs < 65536
two_below = next_below 1 256 one_below

three_below : (bs : List ℕ) → Bytes bs → length bs ≤ 3 → word_of bs < 16777216
three_below = next_below 2 65536 two_below

four_below : (bs : List ℕ) → Bytes bs → length bs ≤ 4 → word_of bs < 4294967296
four_below = next_below 3 16777216 three_below

five_below : (bs : List ℕ) → Bytes bs → length bs ≤ 5 → word_of bs < 1099511627776
five_below = next_below 4 4294967296 four_below

six_below : (bs : List ℕ) → Bytes bs → length bs ≤ 6 → word_of bs < 281474976710656
six_below = next_below 5 1099511627776 five_below

pub seven_below : (bs : List ℕ) → Bytes bs → length bs ≤ 7 → word_of bs < highest_byte
seven_below = next_below 6 281474976710656 six_below

-- how many bytes a number and the space behind it are
pub spaced_length : (x : ℕ) → length (digits x ++ (32 ∷ [])) ≡ length (digits x) + 1
spaced_length x = length-append (digits x) (32 ∷ [])

module _ (x : ℕ) (writable : x < number_bound) where
  -- a number and the space behind it are at most seven bytes
  pub spaced_short : length (digits x ++ (32 ∷ [])) ≤ 7
  spaced_short = omega (arith, spaced_length x, at_most_six x writable)

  spaced_below : word_of (digits x ++ (32 ∷ [])) < highest_byte
  spaced_below = seven_below (digits x ++ (32 ∷ [])) (spaced_bytes x) spaced_short

  -- the two parts of a number's word
  pub word_bytes : numeral_word x % highest_byte ≡ word_of (digits x ++ (32 ∷ []))
  unfolding numeral_word
  word_bytes = omega (arith, spaced_below)

  pub word_length : numeral_word x / highest_byte ≡ length (digits x ++ (32 ∷ []))
  unfolding numeral_word
  word_length = omega (arith, spaced_below, spaced_length x)

  -- the bytes of the first part
  pub word_held : low_bytes 8 (numeral_word x % highest_byte) ≡ (digits x ++ (32 ∷ [])) ++ low_bytes (8 - length (digits x ++ (32 ∷ []))) 0
  word_held = ap (low_bytes 8) word_bytes ∙ bytes_back 8 _ (spaced_bytes x) (omega (arith, spaced_short))

-- numbers with the same word are the same
pub numeral_word_apart : (x y : ℕ) → x < number_bound → y < number_bound → numeral_word x ≡ numeral_word y → x ≡ y
numeral_word_apart x y h k e = sym (digits_value x) ∙ ap (value_from 0) same ∙ digits_value y
  where
    lengths : length (digits x) ≡ length (digits y)
    lengths =
        omega (arith, word_length x h, word_length y k, ap (λ w. w / highest_byte) e, spaced_length x, spaced_length y)

    bytes : low_bytes 8 (numeral_word x % highest_byte) ≡ low_bytes 8 (numeral_word y % highest_byte)
    bytes = ap (λ w. low_bytes 8 (w % highest_byte)) e

    of : (z : ℕ) → z < number_bound → take (length (digits z)) (low_bytes 8 (numeral_word z % highest_byte)) ≡ digits z
    of z b =
        ap (take (length (digits z))) (word_held z b ∙ append_assoc (digits z) (32 ∷ []) _) ∙ take_at (digits z) _ (length (digits z)) refl

    same : digits x ≡ digits y
    same = sym (of x h) ∙ (λ i. take (lengths i) (bytes i)) ∙ of y k

-- The word of a number's last digits and the space behind them: those of x that are not in `left`.
pub record Behind (x word len left : ℕ) : Type 0 where
  pub done : List ℕ
  pub whole : digits x ≡ digits left ++ done
  pub made : word ≡ word_of (done ++ (32 ∷ []))
  pub counted : len ≡ length done + 2
  pub bytes : Bytes (done ++ (32 ∷ []))

pub behind_start : (x : ℕ) → Behind x 32 2 x
unfolding word_of
behind_start x =
    record { done = []; whole = sym (append-nil (digits x)); made = refl; counted = refl; bytes = more_bytes 32 (omega arith) no_byte }

module _ (x word len left : ℕ) (b : Behind x word len left) (writable : x < number_bound) where
  lengths : length (digits x) ≡ length (digits left) + length b.done
  lengths = ap length b.whole ∙ length-append (digits left) b.done

  -- nothing wraps
  pub behind_bounds : (word < 281474976710656) × (len ≤ 7)
  behind_bounds =
      let n : length b.done ≤ 5 = omega (arith, lengths, some_digit left, at_most_six x writable) in
      let l : length (b.done ++ (32 ∷ [])) ≡ length b.done + 1 = length-append b.done (32 ∷ []) in
      (omega (arith, b.made, six_below (b.done ++ (32 ∷ [])) b.bytes (omega arith)), omega (arith, b.counted))

  -- one digit more, and the last
  pub behind_step : 10 ≤ left → Behind x (256 * word + 48 + left % 10) (len + 1) (left / 10)
  unfolding word_of
  behind_step h =
      let w : word ≡ word_of (b.done ++ (32 ∷ [])) = b.made in
      let n : len ≡ length b.done + 2 = b.counted in
      record {
        done = (48 + left % 10) ∷ b.done;
        whole = b.whole ∙ ap (λ ds. ds ++ b.done) (digits_step left h) ∙ append_assoc (digits (left / 10)) ((48 + left % 10) ∷ []) b.done;
        made = omega arith;
        counted = omega arith;
        bytes = more_bytes (48 + left % 10) (omega arith) b.bytes;
      }

  pub behind_end : left < 10 → 256 * word + 48 + left + highest_byte * len ≡ numeral_word x
  unfolding word_of numeral_word
  behind_end h =
      let e : digits x ≡ (48 + left) ∷ b.done = b.whole ∙ ap (λ ds. ds ++ b.done) (digits_below_ten left h) in
      let w : word ≡ word_of (b.done ++ (32 ∷ [])) = b.made in
      let n : len ≡ length b.done + 2 = b.counted in
      omega (arith, ap (λ ds. word_of (ds ++ (32 ∷ []))) e, ap length e)
