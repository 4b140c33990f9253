-- Proofs of the laws of numerals in specs/Laws.antt.
-- Assumes nothing.
use mathlib.Core.Path.{◌≡◌, refl, sym, ◌∙◌, ap}
use mathlib.Core.Bool.{true, ◌&&◌}
use mathlib.Core.List.{List, [], ◌∷◌, ◌++◌, append_assoc, append-nil}
use Prim.Native.Nat.{ℕ, zero, suc, ◌+◌, ◌*◌, ◌-◌, ◌/◌, ◌%◌, ◌≤◌, ◌<◌}
use native.Mathlib.Omega.{arith}
use lib.Dec.{leb, ltb}
use lib.ListN.{length, length-append}
use borrow.Author.Tests.{leb-true, le-leb, ltb-true, ltb-false, lt-ltb, le-ltb}
use Rattle.lists.specs.Choice.{pick_yes, pick_no, and_left, and_right, and_both, clash, Is, is_true, is_false, look}
use Rattle.lists.specs.Members.{all}
use Rattle.lists.proofs.Members.{all_append}
use Rattle.texts.specs.Numerals.{is_digit, is_numeral, value_from}
use Rattle.texts.specs.Numerals.{digits_from, digits}
use Rattle.texts.specs.Laws.{DigitsValue, DigitsNumeral, ZeroNoNumeral, EveryDigit, NumeralValue, NumeralDigits, DigitsBelowTen, DigitsStep, LengthBelowTen, LengthStep, ValueAppend}

below_ten_from : (steps n : ℕ) → n < 10 → digits_from steps n ≡ (48 + n) ∷ []
unfolding digits_from
below_ten_from zero n h = refl
below_ten_from (suc k) n h = pick_yes _ _ _ (lt-ltb n 10 h)

step_from : (steps n : ℕ) → 10 ≤ n → digits_from (suc steps) n ≡ digits_from steps (n / 10) ++ ((48 + n % 10) ∷ [])
unfolding digits_from
step_from k n h = pick_no _ _ _ (le-ltb n 10 h)

-- The number of steps does not matter, if it suffices.
enough : (j k n : ℕ) → n ≤ j → n ≤ k → digits_from j n ≡ digits_from k n
enough zero k n h m = below_ten_from zero n (omega arith) ∙ sym (below_ten_from k n (omega arith))
enough (suc j) zero n h m = below_ten_from (suc j) n (omega arith) ∙ sym (below_ten_from zero n (omega arith))
enough (suc j) (suc k) n h m = go (look (ltb n 10)) (enough j k (n / 10))
  where
    go : Is (ltb n 10) → (n / 10 ≤ j → n / 10 ≤ k → digits_from j (n / 10) ≡ digits_from k (n / 10)) → digits_from (suc j) n ≡ digits_from (suc k) n
    go (is_true t) next = let l : n < 10 = ltb-true n 10 t in below_ten_from (suc j) n l ∙ sym (below_ten_from (suc k) n l)
    go (is_false t) next =
        let l : 10 ≤ n = ltb-false n 10 t in
        step_from j n l ∙ ap (λ ds. ds ++ ((48 + n % 10) ∷ [])) (next (omega arith) (omega arith)) ∙ sym (step_from k n l)

pub digits_below_ten : DigitsBelowTen
unfolding digits
digits_below_ten n h = below_ten_from n n h

pub digits_step : DigitsStep
unfolding digits
digits_step zero h = absurd (omega arith)
digits_step (suc k) h =
    step_from k (suc k) h ∙ ap (λ ds. ds ++ ((48 + suc k % 10) ∷ [])) (enough k (suc k / 10) (suc k / 10) (omega arith) (omega arith))

pub length_below_ten : LengthBelowTen
length_below_ten n h = ap length (digits_below_ten n h)

pub length_step : LengthStep
length_step n h = ap length (digits_step n h) ∙ length-append (digits (n / 10)) ((48 + n % 10) ∷ []) ∙ omega arith

-- What holds of the numbers below ten, and of any other if it holds of its tenth, holds of every number.
pub by_tenths : (P : ℕ → Type 0) → ((n : ℕ) → n < 10 → P n) → ((n : ℕ) → 10 ≤ n → P (n / 10) → P n) → (n : ℕ) → P n
by_tenths P low step n = upto n n (omega arith)
  where
    upto : (bound n : ℕ) → n ≤ bound → P n
    upto zero n h = low n (omega arith)
    upto (suc k) n h = go (look (ltb n 10)) (upto k (n / 10))
      where
        go : Is (ltb n 10) → (n / 10 ≤ k → P (n / 10)) → P n
        go (is_true t) next = low n (ltb-true n 10 t)
        go (is_false t) next = let l : 10 ≤ n = ltb-false n 10 t in step n l (next (omega arith))

pub value_append : ValueAppend
unfolding value_from
value_append v [] es = refl
value_append v (d ∷ ds) es = value_append (10 * v + (d - 48)) ds es

pub digits_value : DigitsValue
unfolding value_from
digits_value =
    by_tenths (λ n. value_from 0 (digits n) ≡ n)
    (λ n h. ap (value_from 0) (digits_below_ten n h) ∙ omega arith)
    (λ n h tenth. ap (value_from 0) (digits_step n h) ∙ value_append 0 (digits (n / 10)) ((48 + n % 10) ∷ []) ∙ omega arith)

-- Digits after a numeral make a longer one.
numeral_append : (ds es : List ℕ) → is_numeral ds ≡ true → all is_digit es ≡ true → is_numeral (ds ++ es) ≡ true
unfolding is_numeral
numeral_append [] es h k = clash h refl
numeral_append (d ∷ ds) es h k =
    and_both (leb 49 d && leb d 57) _ (and_left _ _ h) (all_append is_digit ds es (and_right (leb 49 d && leb d 57) _ h) k)

a_digit : (d : ℕ) → d < 10 → all is_digit ((48 + d) ∷ []) ≡ true
unfolding all is_digit
a_digit d h = and_both _ _ (and_both _ _ (le-leb 48 (48 + d) (omega arith)) (le-leb (48 + d) 57 (omega arith))) refl

pub every_digit : EveryDigit
every_digit =
    by_tenths (λ n. all is_digit (digits n) ≡ true)
    (λ n h. ap (all is_digit) (digits_below_ten n h) ∙ a_digit n h)
    (λ n h tenth.
    ap (all is_digit) (digits_step n h)
    ∙ all_append is_digit (digits (n / 10)) ((48 + n % 10) ∷ []) tenth (a_digit (n % 10) (omega arith)))

pub digits_numeral : DigitsNumeral
unfolding is_numeral all
digits_numeral =
    by_tenths (λ n. 1 ≤ n → is_numeral (digits n) ≡ true)
    (λ n h l.
    ap is_numeral (digits_below_ten n h)
    ∙ and_both _ _ (and_both _ _ (le-leb 49 (48 + n) (omega arith)) (le-leb (48 + n) 57 (omega arith))) refl)
    (λ n h tenth l.
    ap is_numeral (digits_step n h)
    ∙ numeral_append (digits (n / 10)) ((48 + n % 10) ∷ []) (tenth (omega arith)) (a_digit (n % 10) (omega arith)))

pub zero_no_numeral : ZeroNoNumeral
unfolding is_numeral digits digits_from
zero_no_numeral = refl

-- Digits after those of a number from 1 up.
digits_after : (v : ℕ) (ds : List ℕ) → 1 ≤ v → all is_digit ds ≡ true → digits (value_from v ds) ≡ digits v ++ ds
unfolding value_from all is_digit
digits_after v [] l h = sym (append-nil (digits v))
digits_after v (d ∷ ds) l h =
    let low : 48 ≤ d = leb-true 48 d (and_left _ _ (and_left _ _ h)) in
    let high : d ≤ 57 = leb-true d 57 (and_right (leb 48 d) _ (and_left _ _ h)) in
    let n : ℕ = 10 * v + (d - 48) in
    let tenth : n / 10 ≡ v = omega arith in
    let last : 48 + n % 10 ≡ d = omega arith in
    digits_after n ds (omega arith) (and_right (leb 48 d && leb d 57) _ h)
    ∙ ap (λ es. es ++ ds) (digits_step n (omega arith) ∙ ap (λ x. digits x ++ ((48 + n % 10) ∷ [])) tenth ∙ ap (λ x. digits v ++ (x ∷ [])) last)
    ∙ append_assoc (digits v) (d ∷ []) ds

pub numeral_digits : NumeralDigits
unfolding is_numeral value_from
numeral_digits [] h = clash h refl
numeral_digits (d ∷ ds) h =
    let low : 49 ≤ d = leb-true 49 d (and_left _ _ (and_left _ _ h)) in
    let high : d ≤ 57 = leb-true d 57 (and_right (leb 49 d) _ (and_left _ _ h)) in
    let v : ℕ = 10 * 0 + (d - 48) in
    let first : 48 + v ≡ d = omega arith in
    digits_after v ds (omega arith) (and_right (leb 49 d && leb d 57) _ h)
    ∙ ap (λ es. es ++ ds) (digits_below_ten v (omega arith))
    ∙ ap (λ x. x ∷ ds) first

pub numeral_value : NumeralValue
numeral_value ds h = go (look (ltb 0 (value_from 0 ds)))
  where
    go : Is (ltb 0 (value_from 0 ds)) → 1 ≤ value_from 0 ds
    go (is_true t) = ltb-true 0 (value_from 0 ds) t
    go (is_false t) =
        let z : value_from 0 ds ≡ 0 = omega (arith, ltb-false 0 (value_from 0 ds) t) in
        clash h (ap is_numeral (sym (numeral_digits ds h) ∙ ap digits z) ∙ zero_no_numeral)
