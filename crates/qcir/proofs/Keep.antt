-- What `keep` keeps.
-- Assumes nothing.
use mathlib.Core.Bool.{Bool, true, false}
use mathlib.Core.List.{List, [], ◌∷◌}
use mathlib.Core.Path.{◌≡◌, refl, sym, ◌∙◌, ap}
use Prim.Native.Nat.{ℕ}
use native.Mathlib.Omega.{arith}
use lib.Dec.{eqb}
use lib.ListN.{length}
use borrow.Author.Tests.{eqb-true}
use Rattle.lists.specs.Choice.{pick_yes, pick_no, Is, is_true, is_false, look, clash}
use Rattle.lists.specs.Members.{mem}
use Rattle.qcir.specs.Refusals.{keep}

-- Where nothing is kept, nothing passes.
pub keep_none : (p : ℕ → Bool) (xs : List ℕ) → keep p xs ≡ [] → (x : ℕ) → mem x xs ≡ true → p x ≡ false
unfolding keep mem
keep_none p [] e x m = clash m refl
keep_none p (y ∷ ys) e x m = go (look (p y)) (look (eqb x y)) (keep_none p ys)
  where
    go : Is (p y) → Is (eqb x y) → (keep p ys ≡ [] → (x : ℕ) → mem x ys ≡ true → p x ≡ false) → p x ≡ false
    go (is_true t) q rest = absurd (omega (arith, ap length (sym (pick_yes _ _ _ t) ∙ e)))
    go (is_false t) (is_true q) rest = ap p (eqb-true x y q) ∙ t
    go (is_false t) (is_false q) rest = rest (sym (pick_no _ _ _ t) ∙ e) x (rw q at m)

-- Tests that agree keep the same.
pub keep_cong : (p q : ℕ → Bool) (xs : List ℕ) → ((x : ℕ) → p x ≡ q x) → keep p xs ≡ keep q xs
unfolding keep
keep_cong p q [] h = refl
keep_cong p q (x ∷ xs) h = rw (h x, keep_cong p q xs h)
