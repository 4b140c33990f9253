-- Laws of numerals as statements. Each is proved under the name beside it in proofs/Numerals.antt.
-- Assumes nothing.
use Rattle.std.specs.Prelude.{true, false, List, [], ◌∷◌, ◌++◌, ◌≡◌, ℕ, suc, ◌+◌, ◌/◌, ◌%◌, ◌<◌, ◌≤◌, length}
use Rattle.lists.specs.Members.{all}
use Rattle.texts.specs.Numerals.{is_digit, is_numeral, value_from, digits}

-- Numerals and numbers from 1 up correspond one to one. The digits of a number from 1 up are a numeral (digits_numeral),
abbrev pub DigitsNumeral : Type 0
DigitsNumeral = (n : ℕ) → 1 ≤ n → is_numeral (digits n) ≡ true

-- whose value is the number (digits_value, of 0 too);
abbrev pub DigitsValue : Type 0
DigitsValue = (n : ℕ) → value_from 0 (digits n) ≡ n

-- a numeral's value is from 1 up (numeral_value),
abbrev pub NumeralValue : Type 0
NumeralValue = (ds : List ℕ) → is_numeral ds ≡ true → 1 ≤ value_from 0 ds

-- and the digits of that value are the numeral (numeral_digits).
abbrev pub NumeralDigits : Type 0
NumeralDigits = (ds : List ℕ) → is_numeral ds ≡ true → digits (value_from 0 ds) ≡ ds

-- The digits of 0 are no numeral (zero_no_numeral).
abbrev pub ZeroNoNumeral : Type 0
ZeroNoNumeral = is_numeral (digits 0) ≡ false

-- Of every number, each byte is a digit (every_digit).
abbrev pub EveryDigit : Type 0
EveryDigit = (n : ℕ) → all is_digit (digits n) ≡ true

-- One digit after the other: a number below ten has one (digits_below_ten),
abbrev pub DigitsBelowTen : Type 0
DigitsBelowTen = (n : ℕ) → n < 10 → digits n ≡ (48 + n) ∷ []

-- any other has those of its tenth and then one more (digits_step);
abbrev pub DigitsStep : Type 0
DigitsStep = (n : ℕ) → 10 ≤ n → digits n ≡ digits (n / 10) ++ ((48 + n % 10) ∷ [])

-- so a number below ten is one byte long (length_below_ten),
abbrev pub LengthBelowTen : Type 0
LengthBelowTen = (n : ℕ) → n < 10 → length (digits n) ≡ 1

-- and any other is one byte longer than its tenth (length_step).
abbrev pub LengthStep : Type 0
LengthStep = (n : ℕ) → 10 ≤ n → length (digits n) ≡ suc (length (digits (n / 10)))

-- The value of digits goes on from that of the digits before them (value_append).
abbrev pub ValueAppend : Type 0
ValueAppend = (v : ℕ) (ds es : List ℕ) → value_from v (ds ++ es) ≡ value_from (value_from v ds) es
