-- The machine reads a word that may come at a point.
-- Assumes nothing.
use mathlib.Core.Path.{◌≡◌, refl, sym, ◌∙◌, ap, subst}
use mathlib.Core.Bool.{Bool, true, false, ◌&&◌, ◌||◌}
use mathlib.Core.List.{List, [], ◌∷◌, ◌++◌, append_assoc}
use Prim.Native.Nat.{ℕ, suc, ◌+◌}
use native.Mathlib.Omega.{arith}
use lib.Dec.{eqb}
use lib.ListN.{length}
use borrow.Author.Tests.{eqb-true, eq-eqb, ne_eqb}
use Rattle.lists.specs.Choice.{pick, pick_yes, pick_no, and_left, and_right, and_both, or_left, or_right, clash}
use Rattle.qcir.specs.File.{Name}
use Rattle.qcir.specs.Spelling.{is_space, is_digit}
use Rattle.qcir_tokens.specs.Tokens.{Token, token}
use Rattle.qcir_spelling.specs.Machine.{Arrow, arrow, Row, row, Place, ready, inside, digits, State, run, step, step_at, between, read_word, move, emit, point, points, arrow_of, same, begins, some_begins}
use Rattle.qcir_spelling.proofs.Rows.{choose, every, passes, every_arrow, arrow_passes, same_equal}
use Rattle.qcir_spelling.proofs.Runs.{st, plain, between_word, plain_digit}

-- no word is a proper beginning of the word w ++ v that is longer than w
unfoldable pub solid : List Arrow → List ℕ → List ℕ → Bool
solid arrows w [] = true
solid arrows w (b ∷ []) = true
solid arrows w (b ∷ d ∷ v) = eqb (arrow_of (w ++ (b ∷ [])) arrows).target 0 && solid arrows (w ++ (b ∷ [])) (d ∷ v)

unfoldable pub lettered : List ℕ → Bool
lettered [] = false
lettered (b ∷ w) = plain b

unfoldable word_test : ℕ → Row → Bool
word_test c r = every_arrow (λ a. lettered a.word && solid r.words [] a.word) r.words

-- Every word of the table begins with a byte that only words have, and no word is a proper beginning of another at its point.
word_row : (c : ℕ) → word_test c (point c) ≡ true
unfolding word_test every points row arrow every_arrow lettered solid plain is_space is_digit arrow_of same pick
word_row = passes word_test (λ c. refl) refl

pub word_lettered : (c : ℕ) (w : List ℕ) → ((arrow_of w (point c).words).target ≡ 0 → ⊥) → (lettered w ≡ true) × (solid (point c).words [] w ≡ true)
unfolding word_test
word_lettered c w n =
    let r = arrow_passes (λ a. lettered a.word && solid (point c).words [] a.word) w (point c).words (word_row c) n in
    subst (λ v. (lettered v ≡ true) × (solid (point c).words [] v ≡ true)) r.1 (and_left _ _ r.0, and_right (lettered (arrow_of w (point c).words).word) _ r.0)

begins_append : (w v : List ℕ) → begins w (w ++ v) ≡ true
unfolding begins
begins_append [] v = refl
begins_append (b ∷ w) v = and_both _ _ (eq-eqb b b refl) (begins_append w v)

-- a word that has an arrow begins with its own beginnings
pub begun : (w v : List ℕ) (arrows : List Arrow) → ((arrow_of (w ++ v) arrows).target ≡ 0 → ⊥) → some_begins w arrows ≡ true
unfolding arrow_of some_begins arrow
begun w v [] n = absurd (n refl)
begun w v (a ∷ rest) n =
    choose (λ b. (b.target ≡ 0 → ⊥) → (begins w a.word || some_begins w rest) ≡ true) (same (w ++ v) a.word) a (arrow_of (w ++ v) rest)
    (λ e m. or_left _ _ (subst (λ u. begins w u ≡ true) (same_equal (w ++ v) a.word e) (begins_append w v)))
    (λ e m. or_right (begins w a.word) _ (begun w v rest m)) n

-- after the word w at point c, n bytes taken
abbrev pub after_word : ℕ → List ℕ → ℕ → Name → List Token → State
after_word c w n x ts =
    st (ready (arrow_of w (point c).words).target) n x
    (pick (eqb (arrow_of w (point c).words).role 0) ts (ts ++ (token (arrow_of w (point c).words).role x ∷ [])))

-- some bytes of a word that are no whole word
pub part_read : (c : ℕ) (place : Place) (p : ℕ) (x : Name) (ts : List Token) (w v : List ℕ)
    → (arrow_of w (point c).words).target ≡ 0 → ((arrow_of (w ++ v) (point c).words).target ≡ 0 → ⊥)
    → read_word (st place p x ts) c w ≡ st (inside c w) (suc p) x ts
unfolding read_word move
part_read c place p x ts w v z n =
    pick_yes _ _ _ (eq-eqb (arrow_of w (point c).words).target 0 z) ∙ pick_yes _ _ _ (begun w v (point c).words n)

-- the rest v of the word after its bytes w and b
pub word_rest : (most c : ℕ) (place : Place) (p : ℕ) (x : Name) (ts : List Token) (w : List ℕ) (b : ℕ) (v : List ℕ)
    → solid (point c).words w (b ∷ v) ≡ true → ((arrow_of (w ++ (b ∷ v)) (point c).words).target ≡ 0 → ⊥)
    → run most (read_word (st place p x ts) c (w ++ (b ∷ []))) v ≡ after_word c (w ++ (b ∷ v)) (suc p + length v) x ts
unfolding run step step_at read_word emit solid
word_rest most c place p x ts w b [] h n =
    let e : suc p ≡ suc p + 0 = omega arith in
    pick_no _ _ _ (ne_eqb (arrow_of (w ++ (b ∷ [])) (point c).words).target 0 n) ∙ ap (λ k. after_word c (w ++ (b ∷ [])) k x ts) e
word_rest most c place p x ts w b (d ∷ v) h n =
    let group : (w ++ (b ∷ [])) ++ (d ∷ v) ≡ w ++ (b ∷ d ∷ v) = append_assoc w (b ∷ []) (d ∷ v) in
    let m : (arrow_of ((w ++ (b ∷ [])) ++ (d ∷ v)) (point c).words).target ≡ 0 → ⊥ =
    subst (λ u. (arrow_of u (point c).words).target ≡ 0 → ⊥) (sym group) n in
    let z : (arrow_of (w ++ (b ∷ [])) (point c).words).target ≡ 0 = eqb-true _ 0 (and_left _ _ h) in
    let k : suc (suc p) + length v ≡ suc p + suc (length v) = omega arith in
    ap (λ s. run most (step most s d) v) (part_read c place p x ts (w ++ (b ∷ [])) (d ∷ v) z m)
    ∙ word_rest most c (inside c (w ++ (b ∷ []))) (suc p) x ts (w ++ (b ∷ [])) d v
    (and_right (eqb (arrow_of (w ++ (b ∷ [])) (point c).words).target 0) _ h) m
    ∙ ap (λ u. after_word c u (suc (suc p) + length v) x ts) group
    ∙ ap (λ i. after_word c (w ++ (b ∷ d ∷ v)) i x ts) k

-- A word read from a place that takes its first byte as point c does.
word_from : (most c : ℕ) (place : Place) (p : ℕ) (x : Name) (ts : List Token) (w : List ℕ)
    → ((b : ℕ) → plain b ≡ true → step most (st place p x ts) b ≡ between most (st place p x ts) c b)
    → ((arrow_of w (point c).words).target ≡ 0 → ⊥) → lettered w ≡ true → solid (point c).words [] w ≡ true
    → run most (st place p x ts) w ≡ after_word c w (p + length w) x ts
unfolding run lettered
word_from most c place p x ts [] f n l h = clash l refl
word_from most c place p x ts (b ∷ v) f n l h =
    let k : suc p + length v ≡ p + suc (length v) = omega arith in
    ap (λ s. run most s v) (f b l ∙ between_word most (st place p x ts) c b l)
    ∙ word_rest most c place p x ts [] b v h n
    ∙ ap (λ i. after_word c (b ∷ v) i x ts) k

pub word_ready : (most c p : ℕ) (x : Name) (ts : List Token) (w : List ℕ) → ((arrow_of w (point c).words).target ≡ 0 → ⊥)
    → run most (st (ready c) p x ts) w ≡ after_word c w (p + length w) x ts
unfolding step step_at
word_ready most c p x ts w n =
    let t = word_lettered c w n in word_from most c (ready c) p x ts w (λ b l. refl) n t.0 t.1

pub word_digits : (most c p : ℕ) (x : Name) (ts : List Token) (w : List ℕ) → ((arrow_of w (point c).words).target ≡ 0 → ⊥)
    → run most (st (digits c) p x ts) w ≡ after_word c w (p + length w) x ts
unfolding step step_at
word_digits most c p x ts w n =
    let t = word_lettered c w n in
    word_from most c (digits c) p x ts w (λ b l. pick_no _ _ _ (plain_digit b l)) n t.0 t.1
