-- Literals held in words: the sign of a word, and what becomes of it.
-- Assumes nothing.
use mathlib.Core.Path.{◌≡◌, refl, ◌∙◌, ap}
use mathlib.Core.Bool.{Bool, true, false, xor}
use Prim.Native.Nat.{ℕ, zero, suc, ◌+◌, ◌*◌, ◌/◌, ◌%◌, ◌≤◌}
use native.Mathlib.Omega.{arith}
use mir.Val.{bool_byte}
use lib.Bits.{bit_xor, differ, xor_step, xor_zero_r}
use lib.Dec.{eqb}
use borrow.Author.Tests.{eqb-true, eqb-false, eq-eqb, ne_eqb}
use Rattle.lists.specs.Choice.{Is, is_true, is_false, look}
use Rattle.qcir_text.specs.Pieces.{literal, literal_of}
use Rattle.qcir_form.specs.File.{turned}

odd : ℕ → Bool
odd c = eqb (c % 2) 1

odd_byte : (b : Bool) → odd (bool_byte b) ≡ b
unfolding odd
odd_byte true = refl
odd_byte false = refl

odd_sum : (a b : ℕ) → odd (a + b) ≡ xor (odd a) (odd b)
unfolding odd xor
odd_sum a b = go (look (odd a)) (look (odd b))
  where
    go : Is (odd a) → Is (odd b) → odd (a + b) ≡ xor (odd a) (odd b)
    go (is_true p) (is_true q) =
        let x = eqb-true (a % 2) 1 p in
        let y = eqb-true (b % 2) 1 q in
        rw (p, q) (ne_eqb ((a + b) % 2) 1 (λ z. omega arith))
    go (is_true p) (is_false q) =
        let x = eqb-true (a % 2) 1 p in
        let y = eqb-false (b % 2) 1 q in
        rw (p, q) (eq-eqb ((a + b) % 2) 1 (omega arith))
    go (is_false p) (is_true q) =
        let x = eqb-false (a % 2) 1 p in
        let y = eqb-true (b % 2) 1 q in
        rw (p, q) (eq-eqb ((a + b) % 2) 1 (omega arith))
    go (is_false p) (is_false q) =
        let x = eqb-false (a % 2) 1 p in
        let y = eqb-false (b % 2) 1 q in
        rw (p, q) (ne_eqb ((a + b) % 2) 1 (λ z. omega arith))

xor_group : (a b c : Bool) → xor (xor a b) c ≡ xor a (xor b c)
unfolding xor
xor_group true true true = refl
xor_group true true false = refl
xor_group true false true = refl
xor_group true false false = refl
xor_group false true true = refl
xor_group false true false = refl
xor_group false false true = refl
xor_group false false false = refl

-- the sign of a word alone
odd_of : (c d : ℕ) → c % 2 ≡ d % 2 → odd c ≡ odd d
unfolding odd
odd_of c d e = ap (λ r. eqb r 1) e

pub byte_low : (b : Bool) → bool_byte b ≤ 1
byte_low true = omega arith
byte_low false = omega arith

-- a word by its number and its sign
word_is : (c n : ℕ) (b : Bool) → c / 2 ≡ n → odd c ≡ b → literal_of c ≡ literal b n
unfolding literal_of odd
word_is c n b p q = rw (p, q)

-- a gate's number, signed
pub of_gate : (g : ℕ) (b : Bool) → literal_of (2 * g + bool_byte b) ≡ literal b g
of_gate g b =
    let l = byte_low b in
    word_is (2 * g + bool_byte b) g b (omega arith) (odd_of (2 * g + bool_byte b) (bool_byte b) (omega arith) ∙ odd_byte b)

-- the lowest digit turned if s is 1
differ_sum : (a b : ℕ) → a ≤ 1 → b ≤ 1 → differ a b ≡ (a + b) % 2
differ_sum zero zero h k = refl
differ_sum zero (suc zero) h k = refl
differ_sum zero (suc (suc b)) h k = absurd (omega arith)
differ_sum (suc zero) zero h k = refl
differ_sum (suc zero) (suc zero) h k = refl
differ_sum (suc zero) (suc (suc b)) h k = absurd (omega arith)
differ_sum (suc (suc a)) b h k = absurd (omega arith)

pub xor_word : (c s : ℕ) → s ≤ 1 → bit_xor c s ≡ c / 2 * 2 + (c + s) % 2
xor_word c s h =
    let z : s / 2 ≡ 0 = omega arith in
    let rest : bit_xor (c / 2) (s / 2) ≡ c / 2 = rw z (xor_zero_r (c / 2)) in
    let last = differ_sum (c % 2) (s % 2) (omega arith) (omega arith) in
    let sum : (c % 2 + s % 2) % 2 ≡ (c + s) % 2 = omega arith in
    xor_step c s ∙ rw (rest, last, sum)

-- the sign turned
pub of_turned : (c : ℕ) (b : Bool) → literal_of (c / 2 * 2 + (c + bool_byte b) % 2) ≡ turned b (literal_of c)
unfolding turned literal_of odd
of_turned c b =
    let s = bool_byte b in
    word_is (c / 2 * 2 + (c + s) % 2) (c / 2) _ (omega arith)
    (odd_of (c / 2 * 2 + (c + s) % 2) (s + c) (omega arith) ∙ odd_sum s c ∙ ap (λ d. xor d (odd c)) (odd_byte b))

-- the signs of both operands taken to the whole
pub of_xor : (g l m : ℕ) (b : Bool)
    → literal_of (2 * g + (bool_byte b + l + m) % 2) ≡ literal (xor b (xor (literal_of l).minus (literal_of m).minus)) g
unfolding literal_of odd
of_xor g l m b =
    let s = bool_byte b in
    word_is (2 * g + (s + l + m) % 2) g _ (omega arith)
    (odd_of (2 * g + (s + l + m) % 2) (s + l + m) (omega arith) ∙ odd_sum (s + l) m ∙ ap (λ d. xor d (odd m)) (odd_sum s l ∙ ap (λ d. xor d (odd l)) (odd_byte b)) ∙ xor_group b (odd l) (odd m))
