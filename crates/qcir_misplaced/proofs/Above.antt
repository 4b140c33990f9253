-- Lists of numbers none of which is below a bound. Two lists with the same such bounds have the same lowest element.
-- Assumes nothing.
use mathlib.Core.Path.{◌≡◌, refl, sym, ap, subst}
use mathlib.Core.Logic.{◌↔◌}
use mathlib.Core.Bool.{Bool, true}
use mathlib.Core.List.{List, [], ◌∷◌, ◌++◌}
use Prim.Native.Nat.{ℕ, suc, ◌≤◌, min}
use native.Mathlib.Omega.{arith}
use Rattle.std.specs.Prelude.{Some}
use Rattle.lists.specs.Choice.{pick, pick_yes, pick_no, Is, is_true, is_false, look}
use Rattle.qcir.specs.Refusals.{least}
use Rattle.qcir_tokens.specs.Held.{found_of}
use Rattle.qcir_misplaced.specs.Faults.{first_of}

-- no element is below k
pub data Above (k : ℕ) : List ℕ → Type 0 where
  none : Above k []
  more : {x : ℕ} {xs : List ℕ} → k ≤ x → Above k xs → Above k (x ∷ xs)

above_head : {k x : ℕ} {xs : List ℕ} → Above k (x ∷ xs) → k ≤ x
above_head (more h a) = h

above_tail : {k x : ℕ} {xs : List ℕ} → Above k (x ∷ xs) → Above k xs
above_tail (more h a) = a

pub above_left : (k : ℕ) (xs ys : List ℕ) → Above k (xs ++ ys) → Above k xs
above_left k [] ys a = none
above_left k (x ∷ xs) ys a = more (above_head a) (above_left k xs ys (above_tail a))

pub above_right : (k : ℕ) (xs ys : List ℕ) → Above k (xs ++ ys) → Above k ys
above_right k [] ys a = a
above_right k (x ∷ xs) ys a = above_right k xs ys (above_tail a)

pub above_both : (k : ℕ) (xs ys : List ℕ) → Above k xs → Above k ys → Above k (xs ++ ys)
above_both k [] ys a b = b
above_both k (x ∷ xs) ys a b = more (above_head a) (above_both k xs ys (above_tail a) b)

-- an element that stands there by a test, before others
pub above_pick : (k x : ℕ) (b : Bool) (xs : List ℕ) → (Above k (pick b (x ∷ []) [] ++ xs) ↔ ((b ≡ true → k ≤ x) × Above k xs))
above_pick k x b xs = (λ a. (λ h. above_head (subst (λ l. Above k (l ++ xs)) (pick_yes b (x ∷ []) [] h) a), above_right k (pick b (x ∷ []) []) xs a), λ p. go (look b) p.0 p.1)
  where
    go : Is b → (b ≡ true → k ≤ x) → Above k xs → Above k (pick b (x ∷ []) [] ++ xs)
    go (is_true h) f a = subst (λ l. Above k (l ++ xs)) (sym (pick_yes b (x ∷ []) [] h)) (more (f h) a)
    go (is_false h) f a = subst (λ l. Above k (l ++ xs)) (sym (pick_no b (x ∷ []) [] h)) a

-- the same of a list that is so put together
pub above_step : (k x : ℕ) (b : Bool) (ys xs : List ℕ) → ys ≡ pick b (x ∷ []) [] ++ xs → (Above k ys ↔ ((b ≡ true → k ≤ x) × Above k xs))
above_step k x b ys xs e =
    (λ a. (above_pick k x b xs).0 (subst (Above k) e a), λ p. subst (Above k) (sym e) ((above_pick k x b xs).1 p))

-- a bound that is not above k
pub above_lower : (j k : ℕ) (xs : List ℕ) → j ≤ k → Above k xs → Above j xs
above_lower j k [] h a = none
above_lower j k (x ∷ xs) h a = let l : k ≤ x = above_head a in let m : j ≤ x = omega arith in more m (above_lower j k xs h (above_tail a))

-- the lowest element is the highest bound
above_least : (x : ℕ) (xs : List ℕ) → Above (least (x ∷ xs)) (x ∷ xs)
unfolding least
above_least x [] = let m : x ≤ x = omega arith in more m none
above_least x (y ∷ ys) =
    let m : min x (least (y ∷ ys)) ≤ x = omega arith in
    more m (above_lower (min x (least (y ∷ ys))) (least (y ∷ ys)) (y ∷ ys) (omega arith) (above_least y ys))

least_above : (k x : ℕ) (xs : List ℕ) → Above k (x ∷ xs) → k ≤ least (x ∷ xs)
unfolding least
least_above k x [] a = above_head a
least_above k x (y ∷ ys) a =
    let h : k ≤ x = above_head a in
    let l : k ≤ least (y ∷ ys) = least_above k y ys (above_tail a) in omega arith

-- a list with an element has a highest bound
bounded : (x : ℕ) (xs : List ℕ) → Above (suc x) (x ∷ xs) → ⊥
bounded x xs a = let h : suc x ≤ x = above_head a in omega arith

pub found_same : (xs ys : List ℕ) → ((k : ℕ) → (Above k xs ↔ Above k ys)) → found_of xs ≡ found_of ys
unfolding found_of
found_same [] [] h = refl
found_same [] (y ∷ ys) h = absurd (bounded y ys ((h (suc y)).0 none))
found_same (x ∷ xs) [] h = absurd (bounded x xs ((h (suc x)).1 none))
found_same (x ∷ xs) (y ∷ ys) h =
    let a : least (x ∷ xs) ≤ least (y ∷ ys) = least_above (least (x ∷ xs)) y ys ((h (least (x ∷ xs))).0 (above_least x xs)) in
    let b : least (y ∷ ys) ≤ least (x ∷ xs) = least_above (least (y ∷ ys)) x xs ((h (least (y ∷ ys))).1 (above_least y ys)) in
    let q : least (x ∷ xs) ≡ least (y ∷ ys) = omega arith in
    ap Some q

pub first_none : first_of [] ≡ found_of []
unfolding found_of first_of
first_none = refl

-- the first element is the lowest where none after it is lower
pub first_some : (x : ℕ) (xs : List ℕ) → Above x xs → first_of (x ∷ xs) ≡ found_of (x ∷ xs)
unfolding first_of found_of
first_some x xs a =
    let l : x ≤ least (x ∷ xs) = least_above x x xs (let m : x ≤ x = omega arith in more m a) in
    let m : least (x ∷ xs) ≤ x = above_head (above_least x xs) in
    let q : x ≡ least (x ∷ xs) = omega arith in
    ap Some q
