-- The free names of a form by their flags: found at a node, and not bound.
-- Assumes nothing.
use mathlib.Core.Path.{◌≡◌, refl, sym, ◌∙◌, ap}
use mathlib.Core.Bool.{Bool, true, false, not, ◌&&◌}
use mathlib.Core.List.{List}
use Prim.Native.Nat.{ℕ, suc, ◌<◌, ◌≤◌}
use native.Mathlib.Omega.{arith}
use lib.Dec.{eqb, ltb}
use lib.ListN.{length, get_or}
use borrow.Author.Tests.{ltb-true, ltb-false}
use Rattle.lists.specs.Choice.{pick, Is, is_true, is_false, look}
use Rattle.lists.specs.Members.{ListOf, maximum}
use Rattle.lists.specs.Parts.{passing}
use Rattle.lists.proofs.Members.{maximum_ge, maximum_le}
use Rattle.lists.proofs.Passing.{one_list, passing_lists}
use Rattle.formula.specs.Truth.{digit}
use Rattle.name_flags.specs.Flags.{flag_with, Highest, FreeFlags, flagged_below}

-- The names that are flagged are those that pass.
pub flagged_list : (p : ℕ → Bool) (names : List ℕ) (highest : ℕ) (xs : List ℕ) → FreeFlags p names highest → ListOf p xs
    → flagged_below names (suc highest) ≡ xs
unfolding flagged_below
flagged_list p names highest xs fs list =
    let flag : ℕ → Bool = λ x. eqb (get_or names x 0) 2 in
    let l = passing_lists flag (suc highest) (λ x e. omega (arith, fs.above x (sym (fs.flagged x) ∙ e))) in
    one_list p (passing flag (suc highest)) xs
    (record { members = λ x. l.members x ∙ fs.flagged x; ascending = l.ascending })
    list

-- A flag is 2 at a name that was found and is not bound.
flag_open : (bound found : Bool) → eqb (flag_with (digit bound) found) 2 ≡ (found && not bound)
unfolding flag_with digit pick
flag_open true true = refl
flag_open true false = refl
flag_open false true = refl
flag_open false false = refl

flag_test : (bound found : Bool) → (eqb (digit bound) 0 && found) ≡ (found && not bound)
unfolding digit
flag_test true true = refl
flag_test true false = refl
flag_test false true = refl
flag_test false false = refl

module _ (found bound : ℕ → Bool) (before names : List ℕ) (last : ℕ)
    (was : (x : ℕ) → get_or before x 0 ≡ digit (bound x))
    (flagged : (x : ℕ) → get_or names x 0 ≡ flag_with (get_or before x 0) (found x))
    (top : Highest (λ x. eqb (get_or before x 0) 0 && found x) last) where
  abbrev is_free : ℕ → Bool
  is_free x = found x && not (bound x)

  free_test : (x : ℕ) → (eqb (get_or before x 0) 0 && found x) ≡ is_free x
  free_test x = ap (λ (k : ℕ). eqb k 0 && found x) (was x) ∙ flag_test (bound x) (found x)

  free_low : (x : ℕ) → is_free x ≡ true → x ≤ last
  free_low x h = top.above x (free_test x ∙ h)

  pub last_free : 0 < last → is_free last ≡ true
  last_free h = sym (free_test last) ∙ top.passes h

  pub free_flags : length names ≡ 77824 → last < 77824 → FreeFlags is_free names last
  free_flags size low =
      record {
        size = size;
        flagged = λ x.
            ap (λ (k : ℕ). eqb k 2) (flagged x ∙ ap (λ (k : ℕ). flag_with k (found x)) (was x)) ∙ flag_open (bound x) (found x);
        above = free_low;
        below = low;
      }

  -- The highest of them is the last that got a flag.
  pub free_highest : (xs : List ℕ) → ListOf is_free xs → maximum xs ≡ last
  free_highest xs list =
      let up : maximum xs ≤ last = maximum_le xs last (λ x h. free_low x (sym (list.members x) ∙ h)) in
      go (look (ltb 0 last)) up
    where
      go : Is (ltb 0 last) → maximum xs ≤ last → maximum xs ≡ last
      go (is_false e) up = omega (arith, up, ltb-false 0 last e)
      go (is_true e) up = omega (arith, up, maximum_ge xs last (list.members last ∙ last_free (ltb-true 0 last e)))
