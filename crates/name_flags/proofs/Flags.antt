-- What flagging one name does.
-- Assumes nothing.
use mathlib.Core.Path.{◌≡◌, sym, ◌∙◌, ap}
use mathlib.Core.Bool.{true}
use mathlib.Core.List.{List}
use Prim.Native.Nat.{ℕ, ◌<◌}
use lib.Dec.{eqb}
use lib.ListN.{length, get_or, set}
use borrow.Author.Tests.{eqb-true, eq-eqb, ne_eqb}
use Rattle.lists.specs.Choice.{pick, pick_yes, pick_no, Is, is_true, is_false, look}
use Rattle.lists.proofs.Stores.{get_d_set}
use Rattle.name_flags.specs.Flags.{flag_with}

-- a name that has a flag keeps it
flag_same : (b : ℕ) → (b ≡ 0 → ⊥) → flag_with b true ≡ b
unfolding flag_with
flag_same b n = pick_no (eqb b 0) _ _ (ne_eqb b 0 n)

flag_open : (b : ℕ) → b ≡ 0 → flag_with b true ≡ 2
unfolding flag_with pick
flag_open b z = pick_yes (eqb b 0) _ _ (eq-eqb b 0 z)

module _ (names : List ℕ) (x : ℕ) where
  pub flag_kept : (get_or names x 0 ≡ 0 → ⊥) → (y : ℕ) → get_or names y 0 ≡ pick (eqb y x) (flag_with (get_or names y 0) true) (get_or names y 0)
  flag_kept n y = go (look (eqb y x))
    where
      go : Is (eqb y x) → get_or names y 0 ≡ pick (eqb y x) (flag_with (get_or names y 0) true) (get_or names y 0)
      go (is_true e) =
          let q : y ≡ x = eqb-true y x e in
          let m : get_or names y 0 ≡ 0 → ⊥ = λ z. n (ap (λ j. get_or names j 0) (sym q) ∙ z) in
          sym (pick_yes (eqb y x) _ _ e ∙ flag_same (get_or names y 0) m)
      go (is_false e) = sym (pick_no (eqb y x) _ _ e)

  pub flag_new : x < length names → get_or names x 0 ≡ 0 → (y : ℕ)
      → get_or (set names x 2) y 0 ≡ pick (eqb y x) (flag_with (get_or names y 0) true) (get_or names y 0)
  flag_new h z y = get_d_set names x 2 0 h y ∙ go (look (eqb y x))
    where
      go : Is (eqb y x) → pick (eqb y x) 2 (get_or names y 0) ≡ pick (eqb y x) (flag_with (get_or names y 0) true) (get_or names y 0)
      go (is_true e) =
          let q : y ≡ x = eqb-true y x e in
          let m : get_or names y 0 ≡ 0 = ap (λ j. get_or names j 0) q ∙ z in
          pick_yes (eqb y x) _ _ e ∙ sym (pick_yes (eqb y x) _ _ e ∙ flag_open (get_or names y 0) m)
      go (is_false e) = pick_no (eqb y x) _ _ e ∙ sym (pick_no (eqb y x) _ _ e)
