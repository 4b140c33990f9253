-- The lines of words that a text spells after its comment lines, read by a function: a text spells no others.
-- Assumes nothing.
use mathlib.Core.Path.{◌≡◌, refl, sym, ◌∙◌, ap}
use mathlib.Core.Bool.{Bool, true, false, not}
use mathlib.Core.List.{List, [], ◌∷◌, ◌++◌}
use Prim.Native.Nat.{ℕ}
use native.Mathlib.Omega.{arith}
use lib.Dec.{eqb}
use lib.ListN.{get_or}
use borrow.Author.Tests.{eqb-true, not-true, ne_eqb}
use Rattle.lists.specs.Choice.{pick, pick_yes, pick_no, and_left, and_right, or_cases, or_neither_left, or_neither_right, clash}
use Rattle.lists.specs.Members.{mem, all}
use Rattle.texts.specs.Numerals.{is_space}
use Rattle.qdimacs.specs.Problem.{Problem}
use Rattle.qdimacs.specs.Spelling.{Word, problem_lines, is_gap, is_word, starts_with_gap, Spelled, end, space, a_word, at_line_end, Says, comment_line, problem}

-- A word of one byte before the words of the first line,
unfoldable new_word : ℕ → List (List Word) → List (List Word)
new_word b [] = []
new_word b (ws ∷ ls) = ((b ∷ []) ∷ ws) ∷ ls

-- and a byte before the first of them.
unfoldable longer : ℕ → List Word → List Word
longer b [] = []
longer b (w ∷ ws) = (b ∷ w) ∷ ws

unfoldable longer_word : ℕ → List (List Word) → List (List Word)
longer_word b [] = []
longer_word b (ws ∷ ls) = longer b ws ∷ ls

-- The lines of a text.
unfoldable lines_of : List ℕ → List (List Word)
lines_of [] = []
lines_of (b ∷ t) =
    pick (eqb b 10) ([] ∷ lines_of t)
    (pick (is_space b) (lines_of t)
    (pick (starts_with_gap t) (new_word b (lines_of t)) (longer_word b (lines_of t))))

-- A space is no other byte, such as LF or the letter c.
space_other : (b c : ℕ) → is_space b ≡ true → (c ≡ 32 → ⊥) → (c ≡ 9 → ⊥) → eqb b c ≡ false
unfolding is_space
space_other b c h m n = ne_eqb b c (λ e. or_cases (eqb b 32) (eqb b 9) h (λ k. m (sym e ∙ eqb-true b 32 k)) (λ k. n (sym e ∙ eqb-true b 9 k)))

-- The lines of a text that begins with a word.
module _ (ws : List Word) (ls : List (List Word)) (t : List ℕ) (gap : starts_with_gap t ≡ true) (read : lines_of t ≡ ws ∷ ls) where
  word_read : (b : ℕ) (bs : List ℕ) → all (λ c. not (is_gap c)) (b ∷ bs) ≡ true → lines_of ((b ∷ bs) ++ t) ≡ ((b ∷ bs) ∷ ws) ∷ ls
  unfolding lines_of all is_gap starts_with_gap new_word longer_word longer
  word_read b [] h =
      let g : is_gap b ≡ false = not-true (is_gap b) (and_left _ _ h) in
      pick_no _ _ _ (or_neither_right (is_space b) _ g) ∙ pick_no _ _ _ (or_neither_left _ _ g) ∙ pick_yes _ _ _ gap ∙ ap (new_word b) read
  word_read b (c ∷ bs) h =
      let g : is_gap b ≡ false = not-true (is_gap b) (and_left _ _ h) in
      let k : is_gap c ≡ false = not-true (is_gap c) (and_left _ _ (and_right (not (is_gap b)) _ h)) in
      pick_no _ _ _ (or_neither_right (is_space b) _ g)
      ∙ pick_no _ _ _ (or_neither_left _ _ g)
      ∙ pick_no _ _ _ k
      ∙ ap (longer_word b) (word_read c bs (and_right (not (is_gap b)) _ h))

  begins_with_word : (w : Word) → is_word w ≡ true → lines_of (w ++ t) ≡ (w ∷ ws) ∷ ls
  unfolding is_word
  begins_with_word [] h = clash h refl
  begins_with_word (b ∷ bs) h = word_read b bs h

-- The lines that a text spells are its lines.
spelled_lines : {ls : List (List Word)} {t : List ℕ} → Spelled ls t → lines_of t ≡ ls
unfolding lines_of
spelled_lines end = refl
spelled_lines (space {b} h d) =
    pick_no _ _ _ (space_other b 10 h (λ e. omega arith) (λ e. omega arith)) ∙ pick_yes _ _ _ h ∙ spelled_lines d
spelled_lines (a_word w {ws} {ls} {t} h g d) = begins_with_word ws ls t g (spelled_lines d) w h
spelled_lines (at_line_end d) = pick_yes _ _ _ refl ∙ ap (λ ls. [] ∷ ls) (spelled_lines d)

-- A text after its comment lines, or from within a comment line.
unfoldable after_comments : List ℕ → Bool → List ℕ
after_comments [] within = []
after_comments (b ∷ t) true = after_comments t (not (eqb 10 b))
after_comments (b ∷ t) false = pick (eqb b 99) (after_comments t true) (b ∷ t)

-- A comment line ends at its first LF.
comment_ends : (note t : List ℕ) → mem 10 note ≡ false → after_comments (note ++ (10 ∷ t)) true ≡ after_comments t false
unfolding after_comments mem
comment_ends [] t h = refl
comment_ends (b ∷ note) t h =
    ap (λ later. after_comments (note ++ (10 ∷ t)) (not later)) (or_neither_left (eqb 10 b) _ h)
    ∙ comment_ends note t (or_neither_right (eqb 10 b) _ h)

-- Lines whose first word does not begin with c are not comment lines.
abbrev first_byte : List (List Word) → ℕ
first_byte ls = get_or (get_or (get_or ls 0 []) 0 []) 0 0

no_comment : {ls : List (List Word)} {t : List ℕ} → eqb (first_byte ls) 99 ≡ false → Spelled ls t → after_comments t false ≡ t
unfolding after_comments is_word
no_comment n end = refl
no_comment n (space {b} h d) = pick_no _ _ _ (space_other b 99 h (λ e. omega arith) (λ e. omega arith))
no_comment n (a_word [] h g d) = clash h refl
no_comment n (a_word (b ∷ bs) h g d) = pick_no _ _ _ n
no_comment n (at_line_end d) = pick_no _ _ _ refl

-- The lines of a problem that a text says are the text's after its comment lines,
lines_said : {t : List ℕ} {p : Problem} → Says t p → lines_of (after_comments t false) ≡ problem_lines p
unfolding after_comments problem_lines
lines_said (comment_line note {t} h s) = ap lines_of (pick_yes _ _ _ refl ∙ comment_ends note t h) ∙ lines_said s
lines_said (problem g d) = ap lines_of (no_comment refl d) ∙ spelled_lines d

-- so problems that a text says have the same lines.
pub same_lines : {t : List ℕ} {p q : Problem} → Says t p → Says t q → problem_lines p ≡ problem_lines q
same_lines s r = sym (lines_said s) ∙ lines_said r
