-- Laws of membership, distinctness, places and counts in lists of numbers.
-- Assumes nothing.
use mathlib.Core.Path.{◌≡◌, refl, sym, ◌∙◌, ap, subst}
use mathlib.Core.Bool.{Bool, true, false, not, ◌||◌, true≢false, or-false}
use mathlib.Core.List.{List, [], ◌∷◌, ◌++◌, flat_map}
use Prim.Native.Nat.{ℕ, zero, suc, ◌+◌, ◌<◌, ◌≤◌}
use native.Mathlib.Omega.{arith}
use native.Mathlib.Nat.{le_of_suc-le-suc, not-suc-le-zero}
use lib.Dec.{eqb}
use lib.ListN.{length, get_or, replicate}
use borrow.Author.Tests.{eqb-true, eq-eqb, ne_eqb, not-true}
use Rattle.lists.specs.Choice.{pick, pick_yes, pick_no, Is, is_true, is_false, look, clash, and_left, and_right, and_both, or_left, or_right, or_neither_left, or_neither_right, or_neither, or_cases, absent, same_test}
use Rattle.lists.specs.Members.{mem, all, distinct, times, maximum, place, Ascending}

pub or_group : (a b c d : Bool) → b ≡ (c || d) → (a || b) ≡ ((a || c) || d)
or_group true b c d h = refl
or_group false b c d h = h

or_second : (a b : Bool) → (a || b) ≡ true → a ≡ false → b ≡ true
or_second true b h e = absurd (true≢false e)
or_second false b h e = h

pub mem_append : (x : ℕ) (xs ys : List ℕ) → mem x (xs ++ ys) ≡ (mem x xs || mem x ys)
unfolding mem
mem_append x [] ys = refl
mem_append x (y ∷ xs) ys = or_group (eqb x y) (mem x (xs ++ ys)) (mem x xs) (mem x ys) (mem_append x xs ys)

pub mem_left : (x : ℕ) (xs ys : List ℕ) → mem x xs ≡ true → mem x (xs ++ ys) ≡ true
mem_left x xs ys h = mem_append x xs ys ∙ or_left (mem x xs) (mem x ys) h

pub mem_right : (x : ℕ) (xs ys : List ℕ) → mem x ys ≡ true → mem x (xs ++ ys) ≡ true
mem_right x xs ys h = mem_append x xs ys ∙ or_right (mem x xs) (mem x ys) h

pub mem_neither : (x : ℕ) (xs ys : List ℕ) → mem x xs ≡ false → mem x ys ≡ false → mem x (xs ++ ys) ≡ false
mem_neither x xs ys p q = mem_append x xs ys ∙ or_neither (mem x xs) (mem x ys) p q

pub mem_one : (x y : ℕ) → mem x (y ∷ []) ≡ eqb x y
unfolding mem
mem_one x y = or-false (eqb x y)

pub mem_head : (x : ℕ) (xs : List ℕ) → mem x (x ∷ xs) ≡ true
unfolding mem
mem_head x xs = or_left (eqb x x) (mem x xs) (eq-eqb x x refl)

pub mem_tail : (x y : ℕ) (xs : List ℕ) → mem x xs ≡ true → mem x (y ∷ xs) ≡ true
unfolding mem
mem_tail x y xs h = or_right (eqb x y) (mem x xs) h

-- a member is the first element, or else stands in the rest
data Found (x y : ℕ) (ys : List ℕ) : Type 0 where
  first : x ≡ y → Found x y ys
  later : eqb x y ≡ false → mem x ys ≡ true → Found x y ys

found_from : (x y : ℕ) (ys : List ℕ) → Is (eqb x y) → mem x (y ∷ ys) ≡ true → Found x y ys
unfolding mem
found_from x y ys (is_true e) h = first (eqb-true x y e)
found_from x y ys (is_false e) h = later e (or_second (eqb x y) (mem x ys) h e)

found : (x y : ℕ) (ys : List ℕ) → mem x (y ∷ ys) ≡ true → Found x y ys
found x y ys h = found_from x y ys (look (eqb x y)) h

pub mem_nil : (x : ℕ) → mem x [] ≡ false
unfolding mem
mem_nil x = refl

pub mem-get_or : (xs : List ℕ) (k d : ℕ) → k < length xs → mem (get_or xs k d) xs ≡ true
mem-get_or [] k d h = absurd (not-suc-le-zero h)
mem-get_or (x ∷ xs) zero d h = mem_head x xs
mem-get_or (x ∷ xs) (suc k) d h = mem_tail (get_or xs k d) x xs (mem-get_or xs k d (le_of_suc-le-suc h))

place_first : (x y : ℕ) (ys : List ℕ) → x ≡ y → place x (y ∷ ys) ≡ 0
unfolding place
place_first x y ys e = pick_yes _ _ _ (eq-eqb x y e)

place_later : (x y : ℕ) (ys : List ℕ) → eqb x y ≡ false → place x (y ∷ ys) ≡ suc (place x ys)
unfolding place
place_later x y ys e = pick_no _ _ _ e

place_lt_cons : (x y : ℕ) (ys : List ℕ) → Found x y ys → (mem x ys ≡ true → place x ys < length ys) → place x (y ∷ ys) < suc (length ys)
place_lt_cons x y ys (first e) r = rw (place_first x y ys e) (omega arith)
place_lt_cons x y ys (later e m) r = let l = r m in rw (place_later x y ys e) (omega arith)

pub place_lt : (x : ℕ) (xs : List ℕ) → mem x xs ≡ true → place x xs < length xs
place_lt x [] h = clash h (mem_nil x)
place_lt x (y ∷ ys) h = place_lt_cons x y ys (found x y ys h) (place_lt x ys)

get_or_place_cons : (x y : ℕ) (ys : List ℕ) (d : ℕ) → Found x y ys → (mem x ys ≡ true → get_or ys (place x ys) d ≡ x) → get_or (y ∷ ys) (place x (y ∷ ys)) d ≡ x
get_or_place_cons x y ys d (first e) r = rw (place_first x y ys e) (sym e)
get_or_place_cons x y ys d (later e m) r = rw (place_later x y ys e) (r m)

pub get_or-place : (x : ℕ) (xs : List ℕ) (d : ℕ) → mem x xs ≡ true → get_or xs (place x xs) d ≡ x
get_or-place x [] d h = clash h (mem_nil x)
get_or-place x (y ∷ ys) d h = get_or_place_cons x y ys d (found x y ys h) (get_or-place x ys d)

distinct_head : (x : ℕ) (xs : List ℕ) → distinct (x ∷ xs) ≡ true → mem x xs ≡ false
unfolding distinct
distinct_head x xs u = not-true (mem x xs) (and_left (not (mem x xs)) (distinct xs) u)

pub distinct_tail : (x : ℕ) (xs : List ℕ) → distinct (x ∷ xs) ≡ true → distinct xs ≡ true
unfolding distinct
distinct_tail x xs u = and_right (not (mem x xs)) (distinct xs) u

distinct_cons : (x : ℕ) (xs : List ℕ) → mem x xs ≡ false → distinct xs ≡ true → distinct (x ∷ xs) ≡ true
unfolding distinct
distinct_cons x xs m u = and_both (not (mem x xs)) (distinct xs) (ap not m) u

-- a number in the list differs from one that is not
apart_eqb : (x y : ℕ) (ys : List ℕ) → mem x ys ≡ true → mem y ys ≡ false → eqb x y ≡ false
apart_eqb x y ys m n = ne_eqb x y (λ e. clash (subst (λ z. mem z ys ≡ true) e m) n)

pub place-get_or : (xs : List ℕ) (k d : ℕ) → distinct xs ≡ true → k < length xs → place (get_or xs k d) xs ≡ k
place-get_or [] k d u h = absurd (not-suc-le-zero h)
place-get_or (x ∷ xs) zero d u h = place_first x x xs refl
place-get_or (x ∷ xs) (suc k) d u h =
    let l = le_of_suc-le-suc h in place_later (get_or xs k d) x xs (apart_eqb (get_or xs k d) x xs (mem-get_or xs k d l) (distinct_head x xs u)) ∙ ap suc (place-get_or xs k d (distinct_tail x xs u) l)

all_mem_cons : (p : ℕ → Bool) (x y : ℕ) (ys : List ℕ) → Found x y ys → p y ≡ true → (mem x ys ≡ true → p x ≡ true) → p x ≡ true
all_mem_cons p x y ys (first e) h r = rw e h
all_mem_cons p x y ys (later e m) h r = r m

pub all_mem : (p : ℕ → Bool) (xs : List ℕ) (x : ℕ) → all p xs ≡ true → mem x xs ≡ true → p x ≡ true
unfolding all
all_mem p [] x h m = clash m (mem_nil x)
all_mem p (y ∷ ys) x h m = all_mem_cons p x y ys (found x y ys m) (and_left (p y) (all p ys) h) (all_mem p ys x (and_right (p y) (all p ys) h))

pub all_intro : (p : ℕ → Bool) (xs : List ℕ) → ((x : ℕ) → mem x xs ≡ true → p x ≡ true) → all p xs ≡ true
unfolding all
all_intro p [] h = refl
all_intro p (y ∷ ys) h = and_both (p y) (all p ys) (h y (mem_head y ys)) (all_intro p ys (λ x m. h x (mem_tail x y ys m)))

pub all_append : (p : ℕ → Bool) (xs ys : List ℕ) → all p xs ≡ true → all p ys ≡ true → all p (xs ++ ys) ≡ true
unfolding all
all_append p [] ys h k = k
all_append p (x ∷ xs) ys h k = and_both (p x) _ (and_left (p x) _ h) (all_append p xs ys (and_right (p x) _ h) k)

mem_flat_map_cons : (g : ℕ → List ℕ) (x i j : ℕ) (is : List ℕ) → Found i j is → mem x (g i) ≡ true → (mem i is ≡ true → mem x (flat_map g is) ≡ true) → mem x (g j ++ flat_map g is) ≡ true
mem_flat_map_cons g x i j is (first e) m r = mem_left x (g j) (flat_map g is) (rw e at m)
mem_flat_map_cons g x i j is (later e k) m r = mem_right x (g j) (flat_map g is) (r k)

pub mem_flat_map : (g : ℕ → List ℕ) (x i : ℕ) (is : List ℕ) → mem i is ≡ true → mem x (g i) ≡ true → mem x (flat_map g is) ≡ true
unfolding flat_map
mem_flat_map g x i [] h m = clash h (mem_nil i)
mem_flat_map g x i (j ∷ is) h m = mem_flat_map_cons g x i j is (found i j is h) m (λ k. mem_flat_map g x i is k m)

flat_map_from_cons : (g : ℕ → List ℕ) (x j : ℕ) (is : List ℕ) → Is (mem x (g j)) → mem x (g j ++ flat_map g is) ≡ true → (mem x (flat_map g is) ≡ true → (i : ℕ) × (mem i is ≡ true) × (mem x (g i) ≡ true)) → (i : ℕ) × (mem i (j ∷ is) ≡ true) × (mem x (g i) ≡ true)
flat_map_from_cons g x j is (is_true m) h r = (j, mem_head j is, m)
flat_map_from_cons g x j is (is_false m) h r =
    let s = r (or_second (mem x (g j)) (mem x (flat_map g is)) (sym (mem_append x (g j) (flat_map g is)) ∙ h) m) in (s.0, mem_tail s.0 j is s.1, s.2)

pub mem_flat_map_from : (g : ℕ → List ℕ) (x : ℕ) (is : List ℕ) → mem x (flat_map g is) ≡ true → (i : ℕ) × (mem i is ≡ true) × (mem x (g i) ≡ true)
unfolding flat_map
mem_flat_map_from g x [] h = clash h (mem_nil x)
mem_flat_map_from g x (j ∷ is) h = flat_map_from_cons g x j is (look (mem x (g j))) h (mem_flat_map_from g x is)

pub times_zero : (x : ℕ) (xs : List ℕ) → mem x xs ≡ false → times x xs ≡ 0
unfolding times mem
times_zero x [] h = refl
times_zero x (y ∷ ys) h =
    let a = pick_no {A = ℕ} (eqb x y) 1 0 (or_neither_left (eqb x y) (mem x ys) h) in
    let b = times_zero x ys (or_neither_right (eqb x y) (mem x ys) h) in omega arith

times_positive_cons : (x y : ℕ) (ys : List ℕ) → Found x y ys → (mem x ys ≡ true → 0 < times x ys) → 0 < times x (y ∷ ys)
unfolding times
times_positive_cons x y ys (first e) r =
    let a = pick_yes {A = ℕ} (eqb x y) 1 0 (eq-eqb x y e) in omega arith
times_positive_cons x y ys (later e m) r =
    let a = r m in omega arith

pub times_positive : (x : ℕ) (xs : List ℕ) → mem x xs ≡ true → 0 < times x xs
times_positive x [] h = clash h (mem_nil x)
times_positive x (y ∷ ys) h = times_positive_cons x y ys (found x y ys h) (times_positive x ys)

pub distinct_append : (xs ys : List ℕ) → distinct xs ≡ true → distinct ys ≡ true → ((x : ℕ) → mem x xs ≡ true → mem x ys ≡ true → ⊥) → distinct (xs ++ ys) ≡ true
distinct_append [] ys p q apart = q
distinct_append (x ∷ xs) ys p q apart = distinct_cons x (xs ++ ys) (mem_neither x xs ys (distinct_head x xs p) (absent (mem x ys) (apart x (mem_head x xs)))) (distinct_append xs ys (distinct_tail x xs p) q (λ z m. apart z (mem_tail z x xs m)))

pub times_append : (x : ℕ) (xs ys : List ℕ) → times x (xs ++ ys) ≡ times x xs + times x ys
unfolding times
times_append x [] ys = omega arith
times_append x (y ∷ xs) ys = omega (arith, times_append x xs ys)

pub eqb_swap : (x y : ℕ) → eqb x y ≡ eqb y x
eqb_swap x y = same_test (eqb x y) (eqb y x) (λ q. eq-eqb y x (sym (eqb-true x y q))) (λ q. eq-eqb x y (sym (eqb-true y x q)))

one_more : (b : Bool) (k r : ℕ) → r ≡ pick b k 0 → pick b 1 0 + r ≡ pick b (suc k) 0
unfolding pick
one_more true k r e = omega arith
one_more false k r e = omega arith

pick_zero : (b : Bool) → pick {A = ℕ} b 0 0 ≡ 0
unfolding pick
pick_zero true = refl
pick_zero false = refl

pub times_replicate : (k y x : ℕ) → times x (replicate k y) ≡ pick (eqb x y) k 0
unfolding times
times_replicate zero y x = sym (pick_zero (eqb x y))
times_replicate (suc k) y x = one_more (eqb x y) k (times x (replicate k y)) (times_replicate k y x)

mem_times : (x : ℕ) (xs : List ℕ) → 0 < times x xs → mem x xs ≡ true
mem_times x xs h = go (look (mem x xs))
  where
    go : Is (mem x xs) → mem x xs ≡ true
    go (is_true m) = m
    go (is_false m) = absurd (omega (arith, times_zero x xs m))

times_head : (x : ℕ) (xs : List ℕ) → 0 < times x (x ∷ xs)
times_head x xs = times_positive x (x ∷ xs) (mem_head x xs)

-- nothing in an ascending list is lower than its first element
head_lowest : (x y : ℕ) (xs : List ℕ) → Ascending (x ∷ xs) → 0 < times y (x ∷ xs) → x ≤ y
head_lowest x y xs up h =
    let m : mem y (x ∷ xs) ≡ true = mem_times y (x ∷ xs) h in
    let e : get_or (x ∷ xs) (place y (x ∷ xs)) 0 ≡ y = get_or-place y (x ∷ xs) 0 m in
    let l : x ≤ get_or (x ∷ xs) (place y (x ∷ xs)) 0 = up 0 (place y (x ∷ xs)) (omega arith) (place_lt y (x ∷ xs) m) in omega arith

ascending_tail : (x : ℕ) (xs : List ℕ) → Ascending (x ∷ xs) → Ascending xs
ascending_tail x xs up k m l h = up (suc k) (suc m) (omega arith) (omega arith)

-- An ascending list is known by how often each number stands in it.
pub ascending_one : (xs ys : List ℕ) → Ascending xs → Ascending ys → ((j : ℕ) → times j xs ≡ times j ys) → xs ≡ ys
unfolding times
ascending_one [] [] p q e = refl
ascending_one [] (y ∷ ys) p q e = absurd (omega (arith, e y, times_head y ys))
ascending_one (x ∷ xs) [] p q e = absurd (omega (arith, e x, times_head x xs))
ascending_one (x ∷ xs) (y ∷ ys) p q e =
    let below : x ≤ y = head_lowest x y xs p (omega (arith, e y, times_head y ys)) in
    let above : y ≤ x = head_lowest y x ys q (omega (arith, e x, times_head x xs)) in
    let heads : x ≡ y = omega arith in
    let rest : (j : ℕ) → times j xs ≡ times j ys =
    λ j. let same : pick {A = ℕ} (eqb j x) 1 0 ≡ pick (eqb j y) 1 0 = ap (λ (z : ℕ). pick (eqb j z) 1 0) heads in omega (arith, e j) in
    let tails : xs ≡ ys = ascending_one xs ys (ascending_tail x xs p) (ascending_tail y ys q) rest in rw (heads, tails)

-- A number that a list holds, and none twice, stands in it once.
pub times_distinct : (x : ℕ) (xs : List ℕ) → distinct xs ≡ true → mem x xs ≡ true → times x xs ≡ 1
unfolding distinct times mem
times_distinct x [] u m = clash m refl
times_distinct x (y ∷ ys) u m = go (look (eqb x y)) (times_distinct x ys)
  where
    go : Is (eqb x y) → (distinct ys ≡ true → mem x ys ≡ true → times x ys ≡ 1) → pick (eqb x y) 1 0 + times x ys ≡ 1
    go (is_true e) next =
        let none : mem y ys ≡ false = not-true (mem y ys) (and_left (not (mem y ys)) (distinct ys) u) in
        let z : times x ys ≡ 0 = times_zero x ys (ap (λ z. mem z ys) (eqb-true x y e) ∙ none) in
        omega (arith, pick_yes {A = ℕ} (eqb x y) 1 0 e)
    go (is_false e) next =
        let o : times x ys ≡ 1 = next (and_right (not (mem y ys)) (distinct ys) u) (rw e at m) in
        omega (arith, pick_no {A = ℕ} (eqb x y) 1 0 e)

-- so no number stands in it more often
pub times_at_most : (x : ℕ) (xs : List ℕ) → distinct xs ≡ true → times x xs ≤ 1
times_at_most x xs u = go (look (mem x xs))
  where
    go : Is (mem x xs) → times x xs ≤ 1
    go (is_true m) = omega (arith, times_distinct x xs u m)
    go (is_false m) = omega (arith, times_zero x xs m)

-- No element is above the highest.
pub maximum_ge : (xs : List ℕ) (x : ℕ) → mem x xs ≡ true → x ≤ maximum xs
unfolding maximum mem
maximum_ge [] x m = clash m refl
maximum_ge (y ∷ ys) x m =
    or_cases (eqb x y) (mem x ys) m (λ e. omega (arith, eqb-true x y e)) (λ k. omega (arith, maximum_ge ys x k))

-- It is no higher than a bound of all elements,
pub maximum_le : (xs : List ℕ) (m : ℕ) → ((x : ℕ) → mem x xs ≡ true → x ≤ m) → maximum xs ≤ m
unfolding maximum
maximum_le [] m h = omega arith
maximum_le (x ∷ xs) m h = omega (arith, h x (mem_head x xs), maximum_le xs m (λ y k. h y (mem_tail y x xs k)))

-- and that of two lists is the higher of theirs.
pub maximum_append : (xs ys : List ℕ) → maximum (xs ++ ys) ≡ Prim.Native.Nat.max (maximum xs) (maximum ys)
unfolding maximum
maximum_append [] ys = omega arith
maximum_append (x ∷ xs) ys = omega (arith, maximum_append xs ys)
