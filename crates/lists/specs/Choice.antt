-- A choice by a test, and cases on a computed test.
-- Assumes nothing.
use Rattle.std.specs.Prelude.{◌≡◌, refl, Bool, true, false, ◌&&◌, ◌||◌}
use Rattle.std.proofs.Common.{sym, ◌∙◌, true≢false}

-- a where the test passes, b where it does not
unfoldable pub pick {ℓ} : {A : Type ℓ} → Bool → A → A → A
pick true a b = a
pick false a b = b

pub pick_yes {ℓ} : {A : Type ℓ} (t : Bool) (a b : A) → t ≡ true → pick t a b ≡ a
unfolding pick
pick_yes true a b h = refl
pick_yes false a b h = absurd (true≢false (sym h))

pub pick_no {ℓ} : {A : Type ℓ} (t : Bool) (a b : A) → t ≡ false → pick t a b ≡ b
unfolding pick
pick_no true a b h = absurd (true≢false h)
pick_no false a b h = refl

-- which of the two a computed test is
pub data Is (b : Bool) : Type 0 where
  is_true : b ≡ true → Is b
  is_false : b ≡ false → Is b

unfoldable pub look : (b : Bool) → Is b
look true = is_true refl
look false = is_false refl

pub and_left : (a b : Bool) → (a && b) ≡ true → a ≡ true
and_left true b h = refl
and_left false b h = h

pub and_right : (a b : Bool) → (a && b) ≡ true → b ≡ true
and_right true b h = h
and_right false b h = absurd (true≢false (sym h))

pub and_both : (a b : Bool) → a ≡ true → b ≡ true → (a && b) ≡ true
and_both true b p q = q
and_both false b p q = p

pub or_neither_left : (a b : Bool) → (a || b) ≡ false → a ≡ false
or_neither_left true b h = h
or_neither_left false b h = refl

pub or_neither_right : (a b : Bool) → (a || b) ≡ false → b ≡ false
or_neither_right true b h = absurd (true≢false h)
or_neither_right false b h = h

pub or_neither : (a b : Bool) → a ≡ false → b ≡ false → (a || b) ≡ false
or_neither true b p q = p
or_neither false b p q = q

pub or_left : (a b : Bool) → a ≡ true → (a || b) ≡ true
or_left true b h = refl
or_left false b h = absurd (true≢false (sym h))

pub or_right : (a b : Bool) → b ≡ true → (a || b) ≡ true
or_right true b h = refl
or_right false b h = h

pub or_cases : {P : Type 0} (a b : Bool) → (a || b) ≡ true → (a ≡ true → P) → (b ≡ true → P) → P
or_cases true b h f g = f refl
or_cases false b h f g = g h

-- what is true of nothing that is false
pub clash {ℓ} : {A : Type ℓ} {b : Bool} → b ≡ true → b ≡ false → A
clash p q = absurd (true≢false (sym p ∙ q))

-- a test that cannot pass does not pass
pub absent : (b : Bool) → (b ≡ true → ⊥) → b ≡ false
absent true h = absurd (h refl)
absent false h = refl

-- tests that pass together are the same
pub same_test : (a b : Bool) → (a ≡ true → b ≡ true) → (b ≡ true → a ≡ true) → a ≡ b
same_test true b f g = sym (f refl)
same_test false true f g = g refl
same_test false false f g = refl

pub and_off_left : (a b : Bool) → a ≡ false → (a && b) ≡ false
and_off_left true b h = clash refl h
and_off_left false b h = refl

pub and_off_right : (a b : Bool) → b ≡ false → (a && b) ≡ false
and_off_right true b h = h
and_off_right false b h = refl
