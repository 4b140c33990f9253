-- The table of points: tests that every row, or every arrow, passes, decided by computation; the arrow of a word.
-- Assumes nothing.
use mathlib.Core.Path.{◌≡◌, refl, sym}
use mathlib.Core.Bool.{Bool, true, false, ◌&&◌, true≢false}
use mathlib.Core.List.{List, [], ◌∷◌}
use Prim.Native.Nat.{ℕ, zero, suc, ◌+◌}
use native.Mathlib.Omega.{arith}
use lib.Dec.{eqb}
use borrow.Author.Tests.{eqb-true, eq-eqb}
use Rattle.lists.specs.Choice.{pick, and_left, and_right, and_both}
use Rattle.qcir_spelling.specs.Machine.{Arrow, arrow, Row, row, row_at, points, same, arrow_of}

-- what holds in both cases of a choice holds of it
pub choose {ℓ κ} : {A : Type ℓ} (P : A → Type κ) (t : Bool) (a b : A) → (t ≡ true → P a) → (t ≡ false → P b) → P (pick t a b)
unfolding pick
choose P true a b f g = f refl
choose P false a b f g = g refl

-- the rows pass the test, the first of which has number c
unfoldable pub every : (ℕ → Row → Bool) → ℕ → List Row → Bool
every test c [] = true
every test c (r ∷ rs) = test c r && every test (suc c) rs

row_passes : (test : ℕ → Row → Bool) → ((c : ℕ) → test c (row [] 0 0 false) ≡ true) → (b : ℕ) (rs : List Row) → every test b rs ≡ true
    → (i : ℕ) → test (b + i) (row_at rs i) ≡ true
unfolding every row_at
row_passes test none b [] h i = none (b + i)
row_passes test none b (r ∷ rs) h zero =
    let e : b + 0 ≡ b = omega arith in rw e (and_left _ _ h)
row_passes test none b (r ∷ rs) h (suc i) =
    let e : b + suc i ≡ suc b + i = omega arith in rw e (row_passes test none (suc b) rs (and_right (test b r) _ h) i)

-- a test that every row passes, and a row with nothing in it, is passed at every point
pub passes : (test : ℕ → Row → Bool) → ((c : ℕ) → test c (row [] 0 0 false) ≡ true) → every test 0 points ≡ true
    → (c : ℕ) → test c (row_at points c) ≡ true
passes test none h c = let e : 0 + c ≡ c = omega arith in rw e at (row_passes test none 0 points h c)

-- the arrows pass the test
unfoldable pub every_arrow : (Arrow → Bool) → List Arrow → Bool
every_arrow test [] = true
every_arrow test (a ∷ rest) = test a && every_arrow test rest

pub same_equal : (xs ys : List ℕ) → same xs ys ≡ true → xs ≡ ys
unfolding same
same_equal [] [] h = refl
same_equal [] (y ∷ ys) h = absurd (true≢false (sym h))
same_equal (x ∷ xs) [] h = absurd (true≢false (sym h))
same_equal (x ∷ xs) (y ∷ ys) h =
    let e : x ≡ y = eqb-true x y (and_left _ _ h) in
    let r : xs ≡ ys = same_equal xs ys (and_right (eqb x y) _ h) in rw (e, r)

pub same_self : (xs : List ℕ) → same xs xs ≡ true
unfolding same
same_self [] = refl
same_self (x ∷ xs) = and_both _ _ (eq-eqb x x refl) (same_self xs)

-- where a word has an arrow, it has the arrow's bytes, and passes the test that all arrows pass
pub arrow_passes : (test : Arrow → Bool) (w : List ℕ) (arrows : List Arrow) → every_arrow test arrows ≡ true → ((arrow_of w arrows).target ≡ 0 → ⊥)
    → (test (arrow_of w arrows) ≡ true) × ((arrow_of w arrows).word ≡ w)
unfolding every_arrow arrow_of arrow
arrow_passes test w [] h n = absurd (n refl)
arrow_passes test w (a ∷ rest) h n =
    choose (λ b. (b.target ≡ 0 → ⊥) → (test b ≡ true) × (b.word ≡ w)) (same w a.word) a (arrow_of w rest)
    (λ e m. (and_left _ _ h, sym (same_equal w a.word e)))
    (λ e m. arrow_passes test w rest (and_right (test a) _ h) m) n
