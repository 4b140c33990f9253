-- Bytes of one class: a step has the same effect on each.
-- Assumes nothing.
use mathlib.Core.Bool.{Bool, true, false, not, ◌&&◌, ◌||◌}
use mathlib.Core.List.{List, [], ◌∷◌, ◌++◌}
use mathlib.Core.Path.{◌≡◌, refl, sym, ◌∙◌, ap}
use Prim.Native.Nat.{ℕ, zero, suc}
use lib.Dec.{eqb, leb}
use borrow.Author.Tests.{eqb-true, not-true}
use Rattle.lists.specs.Choice.{pick_yes, pick_no, Is, is_true, is_false, look, clash, and_left, and_right, and_off_left, and_off_right, or_cases, or_neither}
use Rattle.lists.specs.Members.{mem, all}
use Rattle.qcir.specs.Spelling.{is_space, is_digit}
use Rattle.qcir_spelling.specs.Machine.{Place, dead, heading, headed, padded, counted, ready, inside, digits, comment, Row, row, Arrow, arrow, points, row_at, point, arrow_of, some_begins, same, begins}
use Rattle.qcir_scan.proofs.Effects.{effect_at, go, word_effect, between_effect}

-- LF, and the bytes of words.
unfoldable pub marks : List ℕ
marks = 10 ∷ 35 ∷ 40 ∷ 41 ∷ 44 ∷ 45 ∷ 59 ∷ 61 ∷ 97 ∷ 100 ∷ 101 ∷ 102 ∷ 105 ∷ 108 ∷ 110 ∷ 111 ∷ 112 ∷ 114 ∷ 115 ∷ 116 ∷ 117 ∷ 120 ∷ []

unfoldable pub agree : Bool → Bool → Bool
agree true b = b
agree false b = not b

pub agreed : (a b : Bool) → agree a b ≡ true → a ≡ b
unfolding agree
agreed true b h = sym h
agreed false true h = h
agreed false false h = refl

-- x and y are one byte, or neither is a mark, and they are both spaces, both digits, both digits above 0, or not.
unfoldable pub alike : ℕ → ℕ → Bool
alike x y =
    eqb x y
    || (not (mem x marks)
    && (not (mem y marks)
    && (agree (is_space x) (is_space y)
    && (agree (is_digit x) (is_digit y)
    && agree (leb 49 x && leb x 57) (leb 49 y && leb y 57)))))

-- what is no mark is none of them
apart : (x m : ℕ) (ms : List ℕ) → mem m ms ≡ true → mem x ms ≡ false → eqb x m ≡ false
apart x m ms h k = by (look (eqb x m))
  where
    by : Is (eqb x m) → eqb x m ≡ false
    by (is_true e) = clash (ap (λ z. mem z ms) (eqb-true x m e) ∙ h) k
    by (is_false e) = e

-- bytes that end in one that is no mark are no word and begin none
same_not : (x : ℕ) (w v : List ℕ) → all (λ m. mem m marks) v ≡ true → mem x marks ≡ false → same (w ++ (x ∷ [])) v ≡ false
unfolding same all
same_not x [] [] h k = refl
same_not x [] (y ∷ v) h k = and_off_left _ _ (apart x y marks (and_left _ _ h) k)
same_not x (z ∷ w) [] h k = refl
same_not x (z ∷ w) (y ∷ v) h k = and_off_right (eqb z y) _ (same_not x w v (and_right (mem y marks) _ h) k)

begins_not : (x : ℕ) (w v : List ℕ) → all (λ m. mem m marks) v ≡ true → mem x marks ≡ false → begins (w ++ (x ∷ [])) v ≡ false
unfolding begins all
begins_not x [] [] h k = refl
begins_not x [] (y ∷ v) h k = and_off_left _ _ (apart x y marks (and_left _ _ h) k)
begins_not x (z ∷ w) [] h k = refl
begins_not x (z ∷ w) (y ∷ v) h k = and_off_right (eqb z y) _ (begins_not x w v (and_right (mem y marks) _ h) k)

-- The words of a row are made of marks.
unfoldable pub words_marked : List Arrow → Bool
words_marked [] = true
words_marked (a ∷ rest) = all (λ m. mem m marks) a.word && words_marked rest

unfoldable pub rows_marked : List Row → Bool
rows_marked [] = true
rows_marked (r ∷ rest) = words_marked r.words && rows_marked rest

points_marked : rows_marked points ≡ true
unfolding rows_marked words_marked all mem marks points row arrow
points_marked = refl

row_marked : (rs : List Row) (c : ℕ) → rows_marked rs ≡ true → words_marked (row_at rs c).words ≡ true
unfolding rows_marked row_at row words_marked
row_marked [] c h = refl
row_marked (r ∷ rs) zero h = and_left _ _ h
row_marked (r ∷ rs) (suc c) h = row_marked rs c (and_right (words_marked r.words) _ h)

no_arrow : (x : ℕ) (w : List ℕ) (rest : List Arrow) → words_marked rest ≡ true → mem x marks ≡ false → arrow_of (w ++ (x ∷ [])) rest ≡ arrow [] 0 0
unfolding arrow_of words_marked
no_arrow x w [] h k = refl
no_arrow x w (a ∷ rest) h k = pick_no _ _ _ (same_not x w a.word (and_left _ _ h) k) ∙ no_arrow x w rest (and_right (all (λ m. mem m marks) a.word) _ h) k

none_begins : (x : ℕ) (w : List ℕ) (rest : List Arrow) → words_marked rest ≡ true → mem x marks ≡ false → some_begins (w ++ (x ∷ [])) rest ≡ false
unfolding some_begins words_marked
none_begins x w [] h k = refl
none_begins x w (a ∷ rest) h k = or_neither _ _ (begins_not x w a.word (and_left _ _ h) k) (none_begins x w rest (and_right (all (λ m. mem m marks) a.word) _ h) k)

word_dead : (x c : ℕ) (w : List ℕ) → mem x marks ≡ false → word_effect c (w ++ (x ∷ [])) ≡ go dead 0
unfolding word_effect arrow
word_dead x c w k =
    let m : words_marked (point c).words ≡ true = row_marked points c points_marked in
    pick_yes _ _ _ (ap (λ a. eqb a.target 0) (no_arrow x w (point c).words m k))
    ∙ pick_no _ _ _ (none_begins x w (point c).words m k)

-- The place is not within the header.
unfoldable pub past_header : Place → Bool
past_header dead = true
past_header (heading hs) = false
past_header headed = true
past_header padded = true
past_header counted = true
past_header (ready c) = true
past_header (inside c w) = true
past_header (digits c) = true
past_header (comment c) = true

-- x and y are no marks, and the same of space, digit, digit above 0
module _ (x y : ℕ) (kx : mem x marks ≡ false) (ky : mem y marks ≡ false) (s : is_space x ≡ is_space y) (d : is_digit x ≡ is_digit y) (n : (leb 49 x && leb x 57) ≡ (leb 49 y && leb y 57)) where
  off : (m : ℕ) → mem m marks ≡ true → eqb x m ≡ eqb y m
  off m h = apart x m marks h kx ∙ sym (apart y m marks h ky)

  lf : eqb x 10 ≡ eqb y 10
  unfolding mem marks
  lf = off 10 refl

  hash : eqb x 35 ≡ eqb y 35
  unfolding mem marks
  hash = off 35 refl

  word_alike : (c : ℕ) (w : List ℕ) → word_effect c (w ++ (x ∷ [])) ≡ word_effect c (w ++ (y ∷ []))
  word_alike c w = word_dead x c w kx ∙ sym (word_dead y c w ky)

  between_alike : (c : ℕ) → between_effect c x ≡ between_effect c y
  unfolding between_effect
  between_alike c = rw (s, lf, hash, word_alike c []) (rw n)

  place_alike : (p : Place) → past_header p ≡ true → effect_at p x ≡ effect_at p y
  unfolding effect_at past_header
  place_alike dead h = refl
  place_alike (heading hs) h = clash h refl
  place_alike headed h = rw (s, lf)
  place_alike padded h = rw (s, d, lf)
  place_alike counted h = rw (d, between_alike 1)
  place_alike (ready c) h = between_alike c
  place_alike (inside c w) h = word_alike c w
  place_alike (digits c) h = rw (d, between_alike c)
  place_alike (comment c) h = rw lf

-- bytes that are alike have the same effect
pub alike_effect : (x y : ℕ) (p : Place) → alike x y ≡ true → past_header p ≡ true → effect_at p x ≡ effect_at p y
unfolding alike
alike_effect x y p t h =
    or_cases _ _ t (λ e. ap (effect_at p) (eqb-true x y e))
    (λ r.
    let a = not (mem x marks) in
    let b = not (mem y marks) in
    let c = agree (is_space x) (is_space y) in
    let d = agree (is_digit x) (is_digit y) in
    let e = agree (leb 49 x && leb x 57) (leb 49 y && leb y 57) in
    let r₁ = and_right a (b && (c && (d && e))) r in
    let r₂ = and_right b (c && (d && e)) r₁ in
    let r₃ = and_right c (d && e) r₂ in
    place_alike x y (not-true _ (and_left a _ r)) (not-true _ (and_left b _ r₁)) (agreed _ _ (and_left c _ r₂)) (agreed _ _ (and_left d _ r₃)) (agreed _ _ (and_right d e r₃)) p h)

-- What is the same of two bytes that are alike.
pub record Signs (x y : ℕ) : Type 0 where
  pub space : is_space x ≡ is_space y
  pub digit : is_digit x ≡ is_digit y
  pub end : eqb x 10 ≡ eqb y 10

pub alike_signs : (x y : ℕ) → alike x y ≡ true → Signs x y
unfolding alike
alike_signs x y t =
    or_cases _ _ t
    (λ e.
    let z : x ≡ y = eqb-true x y e in
    record { space = ap is_space z; digit = ap is_digit z; end = ap (λ b. eqb b 10) z })
    (λ r.
    let a = not (mem x marks) in
    let b = not (mem y marks) in
    let c = agree (is_space x) (is_space y) in
    let d = agree (is_digit x) (is_digit y) in
    let e = agree (leb 49 x && leb x 57) (leb 49 y && leb y 57) in
    let r₁ = and_right a (b && (c && (d && e))) r in
    let r₂ = and_right b (c && (d && e)) r₁ in
    let r₃ = and_right c (d && e) r₂ in
    let s = agreed _ _ (and_left c _ r₂) in
    let i = agreed _ _ (and_left d _ r₃) in
    record { space = s; digit = i; end = lf x y (not-true _ (and_left a _ r)) (not-true _ (and_left b _ r₁)) s i (agreed _ _ (and_right d e r₃)) })
