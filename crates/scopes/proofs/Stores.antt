-- Lists after stores.
-- Assumes nothing.
use mathlib.Core.Path.{◌≡◌, refl, ◌∙◌, ap}
use mathlib.Core.Bool.{Bool, true, false, ◌||◌}
use mathlib.Core.List.{List, [], ◌∷◌}
use Prim.Native.Nat.{ℕ, ◌<◌}
use lib.Dec.{eqb}
use lib.ListN.{length, get_or, set}
use Rattle.lists.specs.Choice.{pick}
use Rattle.lists.specs.Members.{mem}
use Rattle.lists.proofs.Stores.{get_d_set}
use Rattle.scopes.specs.Passes.{Stored}

pub stored_none : (v : ℕ) (l : List ℕ) → Stored [] v l l
unfolding mem pick
stored_none v l = record { element_is = λ x. refl }

pick_or : (s t : Bool) (v w : ℕ) → pick (t || false) v (pick (s || false) v w) ≡ pick (s || (t || false)) v w
unfolding pick
pick_or true true v w = refl
pick_or true false v w = refl
pick_or false true v w = refl
pick_or false false v w = refl

pick_one : (t : Bool) (v w : ℕ) → pick t v w ≡ pick (t || false) v w
unfolding pick
pick_one true v w = refl
pick_one false v w = refl

pub stored_one : (a v : ℕ) (l : List ℕ) → a < length l → Stored (a ∷ []) v l (set l a v)
unfolding mem
stored_one a v l h = record { element_is = λ x. get_d_set l a v 0 h x ∙ pick_one (eqb x a) v (get_or l x 0) }

-- one store after another
pub stored_both : (a b v : ℕ) (l m r : List ℕ) → Stored (a ∷ []) v l m → Stored (b ∷ []) v m r → Stored (a ∷ b ∷ []) v l r
unfolding mem
stored_both a b v l m r p q =
    record {
      element_is = λ x.
          q.element_is x ∙ ap (λ w. pick (eqb x b || false) v w) (p.element_is x) ∙ pick_or (eqb x a) (eqb x b) v (get_or l x 0);
    }
