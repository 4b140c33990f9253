-- The lowest number that passes a test, if there is one: what it is, and one number further.
-- Assumes nothing.
use mathlib.Core.Bool.{Bool}
use mathlib.Core.Path.{◌≡◌, refl, sym, ◌∙◌, ap}
use Prim.Native.Nat.{ℕ, suc, ◌≤◌, ◌<◌}
use native.Mathlib.Omega.{arith}
use lib.Dec.{ltb}
use borrow.Author.Tests.{ltb-true, ltb-false, lt-ltb, le-ltb}
use Rattle.std.specs.Prelude.{Option, None, Some}
use Rattle.std.specs.Bool.{then_some}
use Rattle.std.specs.Option.{option_or}
use Rattle.std.proofs.lemmas.Option.{none-some, same_Some}
use Rattle.lists.specs.Choice.{pick, pick_yes, pick_no, Is, is_true, is_false, look}
use Rattle.lists.specs.Search.{lowest, some_below}
use Rattle.lists.proofs.Search.{lowest_cong}
use Rattle.qcir_table_sizes.specs.Excess.{lowest_below}

below_yes : (p : ℕ → Bool) (n k : ℕ) → lowest p n ≡ k → k < n → lowest_below p n ≡ Some k
unfolding some_below
below_yes p n k e h = ap (λ (m : ℕ). then_some (ltb m n) m) e ∙ ap (λ (b : Bool). then_some b k) (lt-ltb k n h)

below_no : (p : ℕ → Bool) (n : ℕ) → n ≤ lowest p n → lowest_below p n ≡ None
unfolding some_below
below_no p n h = ap (λ (b : Bool). then_some b (lowest p n)) (le-ltb (lowest p n) n h)

-- what one, or none, says
pub below_some : (p : ℕ → Bool) (n k : ℕ) → lowest_below p n ≡ Some k → (k ≡ lowest p n) × (k < n)
below_some p n k e = go (look (ltb (lowest p n) n))
  where
    go : Is (ltb (lowest p n) n) → (k ≡ lowest p n) × (k < n)
    go (is_true t) =
        let l = ltb-true (lowest p n) n t in
        let s : lowest p n ≡ k = same_Some _ _ (sym (below_yes p n (lowest p n) refl l) ∙ e) in
        (sym s, omega arith)
    go (is_false t) = absurd (none-some k (sym (below_no p n (ltb-false (lowest p n) n t)) ∙ e))

pub below_none : (p : ℕ → Bool) (n : ℕ) → lowest_below p n ≡ None → n ≤ lowest p n
below_none p n e = go (look (ltb (lowest p n) n))
  where
    go : Is (ltb (lowest p n) n) → n ≤ lowest p n
    go (is_true t) = absurd (none-some _ (sym e ∙ below_yes p n (lowest p n) refl (ltb-true (lowest p n) n t)))
    go (is_false t) = ltb-false (lowest p n) n t

-- the same test below n
pub below_cong : (p q : ℕ → Bool) (n : ℕ) → ((i : ℕ) → i < n → p i ≡ q i) → lowest_below p n ≡ lowest_below q n
unfolding some_below
below_cong p q n h = ap (λ (m : ℕ). then_some (ltb m n) m) (lowest_cong p q n h)

-- one number further
lowest_suc : (p : ℕ → Bool) (n : ℕ) → lowest p (suc n) ≡ pick (ltb (lowest p n) n) (lowest p n) (pick (p n) n (suc n))
unfolding lowest
lowest_suc p n = refl

pub below_suc : (p : ℕ → Bool) (n : ℕ) → lowest_below p (suc n) ≡ option_or (lowest_below p n) (then_some (p n) n)
below_suc p n = go (look (ltb (lowest p n) n)) (look (p n))
  where
    here : {k : Option ℕ} → lowest_below p n ≡ k → option_or k (then_some (p n) n) ≡ option_or (lowest_below p n) (then_some (p n) n)
    here e = ap (λ (j : Option ℕ). option_or j (then_some (p n) n)) (sym e)

    go : Is (ltb (lowest p n) n) → Is (p n) → lowest_below p (suc n) ≡ option_or (lowest_below p n) (then_some (p n) n)
    go (is_true t) u =
        let l = ltb-true (lowest p n) n t in
        below_yes p (suc n) (lowest p n) (lowest_suc p n ∙ pick_yes _ _ _ t) (omega arith) ∙ here (below_yes p n (lowest p n) refl l)
    go (is_false t) (is_true u) =
        below_yes p (suc n) n (lowest_suc p n ∙ pick_no _ _ _ t ∙ pick_yes _ _ _ u) (omega arith)
        ∙ ap (λ (b : Bool). then_some b n) (sym u)
        ∙ here (below_no p n (ltb-false (lowest p n) n t))
    go (is_false t) (is_false u) =
        let e : lowest p (suc n) ≡ suc n = lowest_suc p n ∙ pick_no _ _ _ t ∙ pick_no _ _ _ u in
        below_no p (suc n) (omega arith)
        ∙ ap (λ (b : Bool). then_some b n) (sym u)
        ∙ here (below_no p n (ltb-false (lowest p n) n t))

-- nothing more is no change
pub or_none : (k : Option ℕ) → option_or k None ≡ k
or_none None = refl
or_none (Some x) = refl
