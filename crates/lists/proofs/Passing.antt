-- Laws of the numbers below n that pass a test: they are the list of those that pass it, and there is one such list.
-- Assumes nothing.
use mathlib.Core.Path.{◌≡◌, refl, sym, ◌∙◌, ap, subst}
use mathlib.Core.Bool.{Bool, true, false, not, ◌||◌}
use mathlib.Core.List.{List, [], ◌∷◌, ◌++◌, append-nil}
use Prim.Native.Nat.{ℕ, zero, suc, ◌+◌, ◌≤◌, ◌<◌}
use native.Mathlib.Omega.{arith}
use native.Mathlib.Nat.{not-suc-le-zero}
use lib.Dec.{eqb, ltb}
use lib.ListN.{length, get_or, length-append, get_or-append}
use lib.Seq.{get_or-append-add}
use borrow.Author.Tests.{eqb-true, eqb-false, ltb-true, ltb-false}
use Rattle.lists.specs.Choice.{pick, pick_yes, pick_no, Is, is_true, is_false, look, clash, and_both, absent, same_test}
use Rattle.lists.specs.Members.{mem, distinct, times, place, Ascending, StrictlyAscending, ListOf}
use Rattle.lists.specs.Parts.{up_to, sum, passing}
use Rattle.lists.proofs.Members.{mem_one, mem_head, mem_nil, mem-get_or, place_lt, get_or-place, times_zero, ascending_one}
use Rattle.lists.proofs.Parts.{length-up_to, mem-up_to, mem_up_to_from, sum_cong}

chosen_from : (b : Bool) (x y : ℕ) → mem y (pick b (x ∷ []) []) ≡ true → (b ≡ true) × (y ≡ x)
unfolding pick
chosen_from true x y m = (refl, eqb-true y x (sym (mem_one y x) ∙ m))
chosen_from false x y m = clash m (mem_nil y)

pub chosen_length : (b : Bool) (x : ℕ) → length (pick b (x ∷ []) []) ≡ pick b 1 0
unfolding pick
chosen_length true x = refl
chosen_length false x = refl

-- Ascending lists without repetitions.

strict_tail : (x : ℕ) (xs : List ℕ) → StrictlyAscending (x ∷ xs) → StrictlyAscending xs
strict_tail x xs up k m l h = up (suc k) (suc m) (omega arith) (omega arith)

-- the first element stands there once
strict_head : (x : ℕ) (xs : List ℕ) → StrictlyAscending (x ∷ xs) → mem x xs ≡ false
strict_head x xs up =
    absent (mem x xs) (λ m.
    let l : place x xs < length xs = place_lt x xs m in
    let e : get_or xs (place x xs) 0 ≡ x = get_or-place x xs 0 m in
    let h : x < get_or xs (place x xs) 0 = up 0 (suc (place x xs)) (omega arith) (omega arith) in omega arith)

-- so none stands twice
pub strict_distinct : (xs : List ℕ) → StrictlyAscending xs → distinct xs ≡ true
unfolding distinct
strict_distinct [] up = refl
strict_distinct (x ∷ xs) up =
    and_both (not (mem x xs)) (distinct xs) (ap not (strict_head x xs up)) (strict_distinct xs (strict_tail x xs up))

strict_ascending : (xs : List ℕ) → StrictlyAscending xs → Ascending xs
strict_ascending xs up k m l h = go (look (eqb k m))
  where
    go : Is (eqb k m) → get_or xs k 0 ≤ get_or xs m 0
    go (is_true e) = let q : k ≡ m = eqb-true k m e in rw q (omega arith)
    go (is_false e) = let n : k ≡ m → ⊥ = eqb-false k m e in omega (arith, up k m (omega arith) h)

times_once : (xs : List ℕ) → StrictlyAscending xs → (x : ℕ) → times x xs ≡ pick (mem x xs) 1 0
unfolding times mem
times_once [] up x = sym (pick_no {A = ℕ} _ _ _ refl)
times_once (y ∷ ys) up x = go (look (eqb x y)) (times_once ys (strict_tail y ys up) x)
  where
    go : Is (eqb x y) → times x ys ≡ pick (mem x ys) 1 0 → pick (eqb x y) 1 0 + times x ys ≡ pick (eqb x y || mem x ys) 1 0
    go (is_true e) r =
        let q : x ≡ y = eqb-true x y e in
        let none : mem x ys ≡ false = ap (λ (z : ℕ). mem z ys) q ∙ strict_head y ys up in
        let z : times x ys ≡ 0 = times_zero x ys none in
        let one : pick {A = ℕ} (eqb x y) 1 0 ≡ 1 = pick_yes {A = ℕ} _ _ _ e in
        let all : pick {A = ℕ} (eqb x y || mem x ys) 1 0 ≡ 1 = pick_yes {A = ℕ} _ _ _ (rw e) in omega arith
    go (is_false e) r = rw e (omega (arith, r, pick_no {A = ℕ} false 1 0 refl))

-- The list of the numbers that pass a test is known by it.
pub one_list : (p : ℕ → Bool) (xs ys : List ℕ) → ListOf p xs → ListOf p ys → xs ≡ ys
one_list p xs ys l k =
    ascending_one xs ys (strict_ascending xs l.ascending) (strict_ascending ys k.ascending)
    (λ x. times_once xs l.ascending x ∙ ap (λ b. pick b 1 0) (l.members x ∙ sym (k.members x)) ∙ sym (times_once ys k.ascending x))

-- a higher number at the end
strict_more : (xs : List ℕ) (n : ℕ) → StrictlyAscending xs → ((x : ℕ) → mem x xs ≡ true → x < n) → StrictlyAscending (xs ++ (n ∷ []))
strict_more xs n up below k m l h = go (look (ltb m (length xs)))
  where
    size : length (xs ++ (n ∷ [])) ≡ length xs + 1
    size = length-append xs (n ∷ [])

    front : (j : ℕ) → j < length xs → get_or (xs ++ (n ∷ [])) j 0 ≡ get_or xs j 0
    front j q = get_or-append xs (n ∷ []) 0 j q

    go : Is (ltb m (length xs)) → get_or (xs ++ (n ∷ [])) k 0 < get_or (xs ++ (n ∷ [])) m 0
    go (is_true t) =
        let q : m < length xs = ltb-true _ _ t in
        omega (arith, front k (omega arith), front m q, up k m l q)
    go (is_false t) =
        let q : length xs ≤ m = ltb-false _ _ t in
        let s : length (xs ++ (n ∷ [])) ≡ length xs + 1 = size in
        let e : length xs + 0 ≡ m = omega arith in
        let last : get_or (xs ++ (n ∷ [])) m 0 ≡ n = ap (λ (j : ℕ). get_or (xs ++ (n ∷ [])) j 0) (sym e) ∙ get_or-append-add xs (n ∷ []) 0 0 in
        omega (arith, front k (omega arith), last, below (get_or xs k 0) (mem-get_or xs k 0 (omega arith)))

module _ (p : ℕ → Bool) where
  pub passing_in : (n x : ℕ) → x < n → p x ≡ true → mem x (passing p n) ≡ true
  unfolding passing
  passing_in n x h e =
      mem-up_to (λ y. pick (p y) (y ∷ []) []) n x x h (subst (λ l. mem x l ≡ true) (sym (pick_yes (p x) (x ∷ []) [] e)) (mem_head x []))

  pub passing_from : (n x : ℕ) → mem x (passing p n) ≡ true → (x < n) × (p x ≡ true)
  unfolding passing
  passing_from n x m =
      let r = mem_up_to_from (λ y. pick (p y) (y ∷ []) []) n x m in
      let c = chosen_from (p r.0) r.0 x r.2 in
      let e : x ≡ r.0 = c.1 in
      (rw e r.1, rw e c.0)

  pub passing_ascending : (n : ℕ) → StrictlyAscending (passing p n)
  unfolding passing up_to
  passing_ascending zero = λ k m l h. absurd (not-suc-le-zero h)
  passing_ascending (suc n) = go (look (p n)) (passing_ascending n)
    where
      go : Is (p n) → StrictlyAscending (up_to (λ x. pick (p x) (x ∷ []) []) n)
          → StrictlyAscending (up_to (λ x. pick (p x) (x ∷ []) []) n ++ pick (p n) (n ∷ []) [])
      go (is_true e) up = rw (pick_yes (p n) (n ∷ []) [] e) (strict_more (up_to (λ x. pick (p x) (x ∷ []) []) n) n up (λ x m. (passing_from n x m).0))
      go (is_false e) up = rw (pick_no (p n) (n ∷ []) [] e, append-nil (up_to (λ x. pick (p x) (x ∷ []) []) n)) up

  -- Where no number from n up passes, these are all.
  pub passing_lists : (n : ℕ) → ((x : ℕ) → p x ≡ true → x < n) → ListOf p (passing p n)
  passing_lists n below =
      record {
        members = λ x. same_test (mem x (passing p n)) (p x) (λ m. (passing_from n x m).1) (λ e. passing_in n x (below x e) e);
        ascending = passing_ascending n;
      }

  pub passing_length : (n : ℕ) → length (passing p n) ≡ sum (λ x. pick (p x) 1 0) n
  unfolding passing
  passing_length n = length-up_to (λ x. pick (p x) (x ∷ []) []) n ∙ sum_cong _ _ n (λ x h. chosen_length (p x) x)
