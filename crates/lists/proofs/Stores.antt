-- What a new array holds, and what one holds after a store within it.
-- Assumes nothing.
use mathlib.Core.Path.{◌≡◌, refl, sym, ◌∙◌, ap, subst}
use mathlib.Core.List.{List}
use Prim.Native.Nat.{ℕ, zero, suc, ◌<◌}
use lib.Dec.{eqb}
use lib.ListN.{length, get_or, set, replicate}
use lib.Seq.{get_or-set_same, get_or-set_other}
use borrow.Author.Tests.{eqb-true, eqb-false}
use Rattle.lists.specs.Choice.{Is, is_true, is_false, look, pick, pick_yes, pick_no}

-- a new array holds its one value at every index, within it and past its end
pub get_or-filled : {A : Type 0} (n x : ℕ) (a : A) → get_or (replicate n a) x a ≡ a
get_or-filled zero x a = refl
get_or-filled (suc n) zero a = refl
get_or-filled (suc n) (suc x) a = get_or-filled n x a

module _ {ℓ} {A : Type ℓ} (xs : List A) (e : ℕ) (v d : A) (h : e < length xs) where
  -- what holds of v where k is e, and of the old element where it is not, holds of the element at k
  pub set_cases {m} : (P : A → Type m) (k : ℕ) → (k ≡ e → P v) → ((k ≡ e → ⊥) → P (get_or xs k d)) → P (get_or (set xs e v) k d)
  set_cases P k here other = go (look (eqb k e))
    where
      go : Is (eqb k e) → P (get_or (set xs e v) k d)
      go (is_true q) =
          let r : k ≡ e = eqb-true k e q in
          subst P (sym (ap (λ j. get_or (set xs e v) j d) r ∙ get_or-set_same xs e v d h)) (here r)
      go (is_false q) =
          let n : k ≡ e → ⊥ = eqb-false k e q in
          subst P (sym (get_or-set_other xs e k v d n)) (other n)

  -- what holds of v at e, and of each other element at its index, holds of all
  pub set_all {m} : (P : ℕ → A → Type m) → P e v → ((k : ℕ) → (k ≡ e → ⊥) → P k (get_or xs k d)) → (k : ℕ) → P k (get_or (set xs e v) k d)
  set_all P f g k = set_cases (λ w. P k w) k (λ q. subst (λ j. P j v) (sym q) f) (g k)

  -- the element at k by the test of its index
  pub get_d_set : (k : ℕ) → get_or (set xs e v) k d ≡ pick (eqb k e) v (get_or xs k d)
  get_d_set k = go (look (eqb k e))
    where
      go : Is (eqb k e) → get_or (set xs e v) k d ≡ pick (eqb k e) v (get_or xs k d)
      go (is_true q) =
          ap (λ j. get_or (set xs e v) j d) (eqb-true k e q) ∙ get_or-set_same xs e v d h ∙ sym (pick_yes (eqb k e) v (get_or xs k d) q)
      go (is_false q) =
          get_or-set_other xs e k v d (eqb-false k e q) ∙ sym (pick_no (eqb k e) v (get_or xs k d) q)
