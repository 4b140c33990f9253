-- The free line, name by name.
-- Assumes nothing.
use mathlib.Core.Path.{◌≡◌, refl, sym, ◌∙◌, ap, subst}
use mathlib.Core.Bool.{Bool, true, false}
use mathlib.Core.List.{List, [], ◌∷◌, ◌++◌, map, append-nil}
use Prim.Native.Nat.{ℕ, ◌+◌, ◌<◌}
use native.Mathlib.Omega.{arith}
use native.Mathlib.Numerals.{add-one}
use lib.Dec.{eqb}
use lib.ListN.{length, get_or}
use borrow.Author.Tests.{eq-eqb, ne_eqb}
use Rattle.lists.specs.Choice.{pick, pick_yes, pick_no}
use Rattle.lists.specs.Parts.{up_to, passing}
use Rattle.qcir.specs.Spelling.{word, name, comma, free_word, free_signs}
use Rattle.qcir_text.specs.Text.{signs_text, sign_text, word_text, is_byte}
use Rattle.texts.specs.Put.{Put}
use Rattle.qcir_text.specs.Pieces.{named, open_text}
use Rattle.texts.proofs.Put.{put_none, put_then, put_as}
use Rattle.qcir_text.proofs.Texts.{end_signs, free_text, open_more}
use Rattle.name_flags.specs.Flags.{flagged_below}
use Rattle.qcir_lines.specs.Lines.{name_text}

-- What stands of the free line before its end.
abbrev pub open_line : List ℕ → ℕ → List ℕ
open_line names x = open_text free_word (flagged_below names x)

-- a line without names is empty, and one with names is not
not_begun : (xs : List ℕ) → length (open_text free_word xs) ≡ 0 → xs ≡ []
unfolding open_text signs_text sign_text word_text is_byte pick
not_begun [] h = refl
not_begun (x ∷ xs) h = absurd (omega arith)

begun : (xs : List ℕ) → (length (open_text free_word xs) ≡ 0 → ⊥) → 0 < length xs
unfolding open_text
begun [] h = absurd (h refl)
begun (x ∷ xs) h = omega arith

-- one name more: what is added to the list, and to the line
more_text : (xs : List ℕ) (x : ℕ) (first : Bool) → (first ≡ true → xs ≡ []) → (first ≡ false → 0 < length xs)
    → open_text free_word (xs ++ (x ∷ []))
    ≡ open_text free_word xs ++ pick first (open_text free_word (x ∷ [])) (signs_text (word comma ∷ name (named x) ∷ []))
unfolding pick open_text
more_text xs x true none some = subst (λ ys. open_text free_word (ys ++ (x ∷ [])) ≡ open_text free_word ys ++ open_text free_word (x ∷ [])) (sym (none refl)) (start x)
  where
    start : (x : ℕ) → open_text free_word ([] ++ (x ∷ [])) ≡ open_text free_word [] ++ open_text free_word (x ∷ [])
    start x = refl
more_text xs x false none some = open_more free_word xs x (some refl)

step_text : (xs : List ℕ) (x : ℕ) (b first : Bool) → (first ≡ true → xs ≡ []) → (first ≡ false → 0 < length xs)
    → open_text free_word (xs ++ pick b (x ∷ []) [])
    ≡ open_text free_word xs ++ pick b (pick first (open_text free_word (x ∷ [])) (signs_text (word comma ∷ name (named x) ∷ []))) []
unfolding pick
step_text xs x true first none some = more_text xs x first none some
step_text xs x false first none some = ap (open_text free_word) (append-nil xs) ∙ sym (append-nil (open_text free_word xs))

-- the end of a line, and no line at all
end : (xs : List ℕ) {before mid after : List ℕ} {at m n : ℕ} → Put before at (open_text free_word xs) mid m → (m ≡ at → ⊥)
    → Put mid m (signs_text end_signs) after n → Put before at (signs_text (free_signs (map named xs))) after n
unfolding open_text
end [] p some q = absurd (some (omega (arith, p.counted)))
end (x ∷ xs) p some q = put_as (free_text x xs) (put_then p q)

no_line : (xs : List ℕ) {before mid : List ℕ} {at m : ℕ} → Put before at (open_text free_word xs) mid m → m ≡ at
    → Put before at (signs_text (free_signs (map named xs))) mid at
unfolding open_text free_signs signs_text sign_text word_text is_byte pick
no_line [] p none = rw none at p
no_line (x ∷ xs) p none = absurd (omega (arith, p.counted))

-- Nothing put before the first name; a name put; the line's end put, or no line.
module _ (names : List ℕ) where
  pub free_none : (before : List ℕ) (at : ℕ) → Put before at (open_line names 0) before at
  unfolding flagged_below passing up_to open_text
  free_none before at = put_none before at

  pub free_name : (x : ℕ) (first : Bool) {before mid after : List ℕ} {at m n : ℕ} → Put before at (open_line names x) mid m
      → (first ≡ true → m ≡ at) → (first ≡ false → m ≡ at → ⊥)
      → Put mid m (name_text first (get_or names x 0) x) after n → Put before at (open_line names (x + 1)) after n
  unfolding flagged_below passing up_to name_text
  free_name x first {at = at} {m = m} p start on q =
      let xs = flagged_below names x in
      let e = step_text xs x (eqb (get_or names x 0) 2) first
      (λ f. not_begun xs (omega (arith, p.counted, start f)))
      (λ f. begun xs (λ z. on f (omega (arith, p.counted)))) in
      rw add-one (put_as e (put_then p q))

  pub free_end : (x : ℕ) {before mid after : List ℕ} {at m n : ℕ} → Put before at (open_line names x) mid m → (m ≡ at → ⊥)
      → Put mid m (signs_text end_signs) after n → Put before at (signs_text (free_signs (map named (flagged_below names x)))) after n
  free_end x p some q = end (flagged_below names x) p some q

  pub free_no_line : (x : ℕ) {before mid : List ℕ} {at m : ℕ} → Put before at (open_line names x) mid m → m ≡ at
      → Put before at (signs_text (free_signs (map named (flagged_below names x)))) mid at
  free_no_line x p none = no_line (flagged_below names x) p none

-- What a name adds, by its flag.
module _ (first : Bool) (flag x : ℕ) where
  pub name_none : (flag ≡ 2 → ⊥) → name_text first flag x ≡ []
  unfolding name_text
  name_none n = pick_no (eqb flag 2) _ _ (ne_eqb flag 2 n)

  pub name_first : flag ≡ 2 → first ≡ true → name_text first flag x ≡ open_text free_word (x ∷ [])
  unfolding name_text
  name_first e d = pick_yes (eqb flag 2) _ _ (eq-eqb flag 2 e) ∙ pick_yes first _ _ d

  pub name_next : flag ≡ 2 → first ≡ false → name_text first flag x ≡ signs_text (word comma ∷ name (named x) ∷ [])
  unfolding name_text
  name_next e d = pick_yes (eqb flag 2) _ _ (eq-eqb flag 2 e) ∙ pick_no first _ _ d
