-- Names found one after the other: their flags, and the highest of them, once one more is found.
-- Assumes nothing.
use mathlib.Core.Path.{◌≡◌, refl, sym, ◌∙◌, ap}
use mathlib.Core.Bool.{Bool, true, false, ◌&&◌, ◌||◌}
use mathlib.Core.List.{List}
use Prim.Native.Nat.{ℕ, zero, suc, ◌<◌, ◌≤◌, max}
use native.Mathlib.Omega.{arith}
use lib.Dec.{eqb, ltb}
use lib.ListN.{get_or}
use borrow.Author.Tests.{eqb-true, eq-eqb, ne_eqb, ltb-true, ltb-false}
use Rattle.lists.specs.Choice.{pick, pick_no, Is, is_true, is_false, look, clash, and_left, and_right, and_both, or_left, or_right, or_cases}
use Rattle.name_flags.specs.Flags.{flag_with, Highest}

-- a flag stays
flag_stays : (b : ℕ) (o : Bool) → flag_with (suc b) o ≡ suc b
unfolding flag_with
flag_stays b o = pick_no (eqb (suc b) 0) _ _ (ne_eqb (suc b) 0 (λ e. omega arith))

-- what was found need not be found again
flag_again : (b : ℕ) (o : Bool) → flag_with (flag_with b o) true ≡ flag_with b true
unfolding flag_with pick
flag_again zero true = refl
flag_again zero false = refl
flag_again (suc b) o = ap (λ c. flag_with c true) (flag_stays b o)

-- a name that is not found keeps what it has
pub flag_off : (b : ℕ) → flag_with b false ≡ b
unfolding flag_with pick
flag_off zero = refl
flag_off (suc b) = flag_stays b false

-- one more find
pub flag_more : (b : ℕ) (o q : Bool) → pick q (flag_with (flag_with b o) true) (flag_with b o) ≡ flag_with b (o || q)
unfolding pick
flag_more b true true = flag_again b true
flag_more b false true = flag_again b false
flag_more b true false = refl
flag_more b false false = refl

-- a name without a flag had none before
flag_none : (b : ℕ) (o : Bool) → flag_with b o ≡ 0 → b ≡ 0
flag_none zero o z = refl
flag_none (suc b) o z = sym (flag_stays b o) ∙ z

-- one without a flag before has one if it is found
flag_found : (b : ℕ) (o : Bool) → b ≡ 0 → (flag_with b o ≡ 0 → ⊥) → o ≡ true
unfolding flag_with pick
flag_found zero true e n = refl
flag_found zero false e n = absurd (n refl)
flag_found (suc b) o e n = absurd (omega arith)

-- The highest number by one of two tests that are the same.
pub highest_same : (p q : ℕ → Bool) (h : ℕ) → ((x : ℕ) → p x ≡ q x) → Highest p h → Highest q h
highest_same p q h same m = record { above = λ x o. m.above x (same x ∙ o); passes = λ l. sym (same h) ∙ m.passes l }

-- No number passes.
pub highest_none : (p : ℕ → Bool) → ((x : ℕ) → p x ≡ false) → Highest p 0
highest_none p none = record { above = λ x o. clash o (none x); passes = λ l. absurd (omega arith) }

-- The highest name that is found and had no flag before. What is found now passes the test `here`, which only the name y may pass.
module _ (before names : List ℕ) (found here : ℕ → Bool) (y h : ℕ)
    (flags : (x : ℕ) → get_or names x 0 ≡ flag_with (get_or before x 0) (found x))
    (top : Highest (λ x. eqb (get_or before x 0) 0 && found x) h)
    (only : (x : ℕ) → here x ≡ true → y ≡ x) where
  abbrev unflagged : ℕ → Bool
  unflagged x = eqb (get_or before x 0) 0

  stays : (x : ℕ) → (unflagged x && found x) ≡ true → (unflagged x && (found x || here x)) ≡ true
  stays x o = and_both (unflagged x) _ (and_left (unflagged x) _ o) (or_left (found x) _ (and_right (unflagged x) _ o))

  known : (P : Type 0) (x : ℕ) → (unflagged x && (found x || here x)) ≡ true → (x ≤ h → P) → (here x ≡ true → P) → P
  known P x o f g =
      or_cases (found x) (here x) (and_right (unflagged x) _ o)
      (λ a. f (top.above x (and_both (unflagged x) _ (and_left (unflagged x) _ o) a)))
      g

  -- y had no flag
  pub highest_taken : (0 < y → here y ≡ true) → get_or names y 0 ≡ 0 → Highest (λ x. unflagged x && (found x || here x)) (max h y)
  highest_taken is z =
      record {
        above = λ x o. known (x ≤ max h y) x o (λ l. omega arith) (λ a. omega (arith, only x a));
        passes = λ p. go (look (ltb h y)) p;
      }
    where
      go : Is (ltb h y) → 0 < max h y → (unflagged (max h y) && (found (max h y) || here (max h y))) ≡ true
      go (is_true e) p =
          let l = ltb-true h y e in
          let m : max h y ≡ y = omega arith in
          rw m
          (and_both (unflagged y) _ (eq-eqb (get_or before y 0) 0 (flag_none (get_or before y 0) (found y) (sym (flags y) ∙ z)))
          (or_right (found y) _ (is (omega arith))))
      go (is_false e) p =
          let l = ltb-false h y e in
          let m : max h y ≡ h = omega arith in
          rw m (stays h (top.passes (omega arith)))

  -- it had one
  pub highest_left : ((x : ℕ) → here x ≡ true → get_or names x 0 ≡ 0 → ⊥) → Highest (λ x. unflagged x && (found x || here x)) h
  highest_left n =
      record {
        above = λ x o. known (x ≤ h) x o (λ l. l) (λ a. low x o a);
        passes = λ p. stays h (top.passes p);
      }
    where
      low : (x : ℕ) → (unflagged x && (found x || here x)) ≡ true → here x ≡ true → x ≤ h
      low x o a =
          let z : get_or before x 0 ≡ 0 = eqb-true (get_or before x 0) 0 (and_left (unflagged x) _ o) in
          top.above x
          (and_both (unflagged x) _ (eq-eqb _ _ z) (flag_found (get_or before x 0) (found x) z (λ q. n x a (flags x ∙ q))))
