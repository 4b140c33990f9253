-- Laws of `lowest`: it is what its name says; and of `some_below`, step by step.
-- Assumes nothing.
use mathlib.Core.Path.{◌≡◌, refl, ◌∙◌}
use mathlib.Core.Bool.{Bool, true, false, ◌||◌}
use Prim.Native.Nat.{ℕ, zero, suc, ◌+◌, ◌≤◌, ◌<◌}
use native.Mathlib.Numerals.{add-one}
use native.Mathlib.Omega.{arith}
use lib.Dec.{ltb}
use borrow.Author.Tests.{ltb-true, ltb-false, lt-ltb, le-ltb}
use Rattle.lists.specs.Choice.{pick, pick_yes, pick_no, Is, is_true, is_false, look, clash}
use Rattle.lists.specs.Search.{lowest, some_below}

-- the three ways to go one further
data Step (p : ℕ → Bool) (n : ℕ) : Type 0 where
  found : lowest p n < n → lowest p (suc n) ≡ lowest p n → Step p n
  here : n ≤ lowest p n → p n ≡ true → lowest p (suc n) ≡ n → Step p n
  none : n ≤ lowest p n → p n ≡ false → lowest p (suc n) ≡ suc n → Step p n

step_here : (p : ℕ → Bool) (n : ℕ) → ltb (lowest p n) n ≡ false → Is (p n) → Step p n
unfolding lowest
step_here p n e (is_true t) = here (ltb-false _ _ e) t (pick_no _ _ _ e ∙ pick_yes _ _ _ t)
step_here p n e (is_false t) = none (ltb-false _ _ e) t (pick_no _ _ _ e ∙ pick_no _ _ _ t)

step_from : (p : ℕ → Bool) (n : ℕ) → Is (ltb (lowest p n) n) → Step p n
unfolding lowest
step_from p n (is_true e) = found (ltb-true _ _ e) (pick_yes _ _ _ e)
step_from p n (is_false e) = step_here p n e (look (p n))

step : (p : ℕ → Bool) (n : ℕ) → Step p n
step p n = step_from p n (look (ltb (lowest p n) n))

le_step : (p : ℕ → Bool) (n : ℕ) → Step p n → lowest p n ≤ n → lowest p (suc n) ≤ suc n
le_step p n (found l e) h = omega arith
le_step p n (here l t e) h = omega arith
le_step p n (none l t e) h = omega arith

pub lowest_le : (p : ℕ → Bool) (n : ℕ) → lowest p n ≤ n
unfolding lowest
lowest_le p zero = omega arith
lowest_le p (suc n) = le_step p n (step p n) (lowest_le p n)

holds_step : (p : ℕ → Bool) (n : ℕ) → Step p n → (lowest p n < n → p (lowest p n) ≡ true) → lowest p (suc n) < suc n → p (lowest p (suc n)) ≡ true
holds_step p n (found l e) r h = rw e (r l)
holds_step p n (here l t e) r h = rw e t
holds_step p n (none l t e) r h = absurd (omega arith)

-- below n it passes the test
pub lowest_holds : (p : ℕ → Bool) (n : ℕ) → lowest p n < n → p (lowest p n) ≡ true
lowest_holds p zero h = absurd (omega arith)
lowest_holds p (suc n) h = holds_step p n (step p n) (lowest_holds p n) h

before_last : (p : ℕ → Bool) (n i : ℕ) → Is (ltb i n) → n ≤ lowest p n → p n ≡ false → (i < lowest p n → p i ≡ false) → i < suc n → p i ≡ false
before_last p n i (is_true e) l t r h = let k = ltb-true i n e in r (omega arith)
before_last p n i (is_false e) l t r h =
    let k = ltb-false i n e in
    let same : i ≡ n = omega arith in rw same t

before_step : (p : ℕ → Bool) (n i : ℕ) → Step p n → (i < lowest p n → p i ≡ false) → i < lowest p (suc n) → p i ≡ false
before_step p n i (found l e) r h = r (omega arith)
before_step p n i (here l t e) r h = r (omega arith)
before_step p n i (none l t e) r h = before_last p n i (look (ltb i n)) l t r (omega arith)

-- nothing lower passes
pub lowest_before : (p : ℕ → Bool) (n i : ℕ) → i < lowest p n → p i ≡ false
lowest_before p zero i h =
    let z = lowest_le p zero in absurd (omega arith)
lowest_before p (suc n) i h = before_step p n i (step p n) (lowest_before p n i) h

least_from : (p : ℕ → Bool) (n i : ℕ) → Is (ltb i (lowest p n)) → p i ≡ true → lowest p n ≤ i
least_from p n i (is_true e) t = clash t (lowest_before p n i (ltb-true _ _ e))
least_from p n i (is_false e) t = ltb-false _ _ e

-- what passes is not below it
pub lowest_least : (p : ℕ → Bool) (n i : ℕ) → i < n → p i ≡ true → lowest p n ≤ i
lowest_least p n i h t = least_from p n i (look (ltb i (lowest p n))) t

-- it is not below i, for i ≤ n, where nothing below i passes
reaches : (p : ℕ → Bool) (n i : ℕ) → Is (ltb (lowest p n) i) → i ≤ n → ((j : ℕ) → j < i → p j ≡ false) → i ≤ lowest p n
reaches p n i (is_true e) h below =
    let k = ltb-true (lowest p n) i e in clash (lowest_holds p n (omega arith)) (below (lowest p n) k)
reaches p n i (is_false e) h below = ltb-false _ _ e

-- and only it is so
pub lowest_is : (p : ℕ → Bool) (n i : ℕ) → i < n → p i ≡ true → ((j : ℕ) → j < i → p j ≡ false) → lowest p n ≡ i
lowest_is p n i h t below =
    let a = reaches p n i (look (ltb (lowest p n) i)) (omega arith) below in
    let b = lowest_least p n i h t in omega arith

pub lowest_none : (p : ℕ → Bool) (n : ℕ) → ((j : ℕ) → j < n → p j ≡ false) → lowest p n ≡ n
lowest_none p n below =
    let a = reaches p n n (look (ltb (lowest p n) n)) (omega arith) below in
    let b = lowest_le p n in omega arith

pub lowest_cong : (p r : ℕ → Bool) (n : ℕ) → ((j : ℕ) → j < n → p j ≡ r j) → lowest p n ≡ lowest r n
unfolding lowest
lowest_cong p r zero same = refl
lowest_cong p r (suc n) same = rw (lowest_cong p r n (λ j h. same j (omega arith)), same n (omega arith))

pub some_none : (p : ℕ → Bool) → some_below p 0 ≡ false
unfolding some_below lowest
some_none p = refl

pub some_next : (p : ℕ → Bool) (n : ℕ) → some_below p (n + 1) ≡ (some_below p n || p n)
unfolding some_below lowest
some_next p n = rw add-one (first (look (ltb (lowest p n) n)))
  where
    second : ltb (lowest p n) n ≡ false → Is (p n) → ltb (pick (ltb (lowest p n) n) (lowest p n) (pick (p n) n (suc n))) (suc n) ≡ (ltb (lowest p n) n || p n)
    second e (is_true t) = rw (pick_no (ltb (lowest p n) n) (lowest p n) (pick (p n) n (suc n)) e, pick_yes (p n) n (suc n) t, e, t) (lt-ltb n (suc n) (omega arith))
    second e (is_false t) = rw (pick_no (ltb (lowest p n) n) (lowest p n) (pick (p n) n (suc n)) e, pick_no (p n) n (suc n) t, e, t) (le-ltb (suc n) (suc n) (omega arith))

    first : Is (ltb (lowest p n) n) → ltb (pick (ltb (lowest p n) n) (lowest p n) (pick (p n) n (suc n))) (suc n) ≡ (ltb (lowest p n) n || p n)
    first (is_true e) =
        let l : lowest p n < n = ltb-true _ _ e in
        rw (pick_yes (ltb (lowest p n) n) (lowest p n) (pick (p n) n (suc n)) e, e) (lt-ltb (lowest p n) (suc n) (omega arith))
    first (is_false e) = second e (look (p n))
