-- With how many bytes in common two lists begin: byte after byte.
-- Assumes nothing.
use mathlib.Core.Bool.{true, false}
use mathlib.Core.List.{List, [], ◌∷◌}
use mathlib.Core.Path.{◌≡◌, refl, sym, ◌∙◌, ap}
use Prim.Native.Nat.{ℕ, suc, ◌+◌, ◌≤◌, ◌<◌}
use native.Mathlib.Numerals.{add-one}
use native.Mathlib.Omega.{arith}
use lib.Dec.{eqb}
use lib.ListN.{length, get_or, drop, drop_of_length-le}
use lib.Seq.{drop-cons}
use borrow.Author.Tests.{eq-eqb, ne_eqb}
use Rattle.lists.specs.Choice.{pick, pick_yes, pick_no, Is, is_true, is_false, look}
use Rattle.qcir_header.specs.Header.{common}

-- nothing in common with no bytes
pub common_none : (hs : List ℕ) → common hs [] ≡ 0
unfolding common
common_none [] = refl
common_none (h ∷ hs) = refl

-- the bytes in common from a position on in each of two lists
module _ (hs text : List ℕ) (k at : ℕ) where
  pub common_ended : length text ≤ at → common (drop k hs) (drop at text) ≡ 0
  common_ended l = ap (common (drop k hs)) (drop_of_length-le text l) ∙ common_none (drop k hs)

  pub common_whole : length hs ≤ k → common (drop k hs) (drop at text) ≡ 0
  unfolding common
  common_whole l = ap (λ xs. common xs (drop at text)) (drop_of_length-le hs l)

  module _ (lh : k < length hs) (lt : at < length text) where
    opened : common (drop k hs) (drop at text) ≡ pick (eqb (get_or hs k 0) (get_or text at 0)) (suc (common (drop (suc k) hs) (drop (suc at) text))) 0
    unfolding common
    opened = rw (drop-cons hs k 0 lh, drop-cons text at 0 lt)

    pub common_differs : (get_or text at 0 ≡ get_or hs k 0 → ⊥) → common (drop k hs) (drop at text) ≡ 0
    common_differs ne = opened ∙ pick_no _ _ _ (ne_eqb _ _ (λ e. ne (sym e)))

    pub common_next : get_or text at 0 ≡ get_or hs k 0 → common (drop k hs) (drop at text) ≡ suc (common (drop (k + 1) hs) (drop (at + 1) text))
    common_next e = rw (add-one k, add-one at) (opened ∙ pick_yes _ _ _ (eq-eqb _ _ (sym e)))

module _ (h b : ℕ) (hs t : List ℕ) where
  pub common_yes : eqb h b ≡ true → common (h ∷ hs) (b ∷ t) ≡ suc (common hs t)
  unfolding common
  common_yes y = pick_yes _ _ _ y

  pub common_no : eqb h b ≡ false → common (h ∷ hs) (b ∷ t) ≡ 0
  unfolding common
  common_no y = pick_no _ _ _ y

-- not more in common than there is
pub common_header : (hs text : List ℕ) → common hs text ≤ length hs
unfolding common
common_header [] text = omega arith
common_header (h ∷ hs) [] = omega arith
common_header (h ∷ hs) (b ∷ t) = by (look (eqb h b)) (common_header hs t)
  where
    by : Is (eqb h b) → common hs t ≤ length hs → common (h ∷ hs) (b ∷ t) ≤ suc (length hs)
    by (is_true y) l = omega (arith, common_yes h b hs t y)
    by (is_false y) l = omega (arith, common_no h b hs t y)

pub common_text : (hs text : List ℕ) → common hs text ≤ length text
unfolding common
common_text [] text = omega arith
common_text (h ∷ hs) [] = omega arith
common_text (h ∷ hs) (b ∷ t) = by (look (eqb h b)) (common_text hs t)
  where
    by : Is (eqb h b) → common hs t ≤ length t → common (h ∷ hs) (b ∷ t) ≤ suc (length t)
    by (is_true y) l = omega (arith, common_yes h b hs t y)
    by (is_false y) l = omega (arith, common_no h b hs t y)
