-- What `keep` keeps, and parts of lists in which no element stands twice.
-- Assumes nothing.
use mathlib.Core.Bool.{Bool, true, false, not, ◌&&◌, ◌||◌}
use mathlib.Core.List.{List, [], ◌∷◌, ◌++◌}
use mathlib.Core.Path.{◌≡◌, refl, sym, ◌∙◌, ap}
use Prim.Native.Nat.{ℕ, ◌+◌, ◌≤◌}
use native.Mathlib.Omega.{arith}
use lib.Dec.{eqb}
use lib.ListN.{length}
use borrow.Author.Tests.{eqb-true, not-true}
use Rattle.lists.specs.Choice.{pick, clash, and_both, and_left, and_right, and_off_left, or_neither_left}
use Rattle.lists.specs.Members.{mem, distinct}
use Rattle.kept_prefix.specs.Blocks.{keep}
use Rattle.lists.proofs.Members.{mem_append, distinct_tail}

-- No element twice: the first stands not in the rest, and the rest has none twice.
distinct_head : (x : ℕ) (xs : List ℕ) → distinct (x ∷ xs) ≡ true → mem x xs ≡ false
unfolding distinct
distinct_head x xs u = not-true (mem x xs) (and_left (not (mem x xs)) (distinct xs) u)

distinct_cons : (x : ℕ) (xs : List ℕ) → mem x xs ≡ false → distinct xs ≡ true → distinct (x ∷ xs) ≡ true
unfolding distinct
distinct_cons x xs m u = and_both (not (mem x xs)) (distinct xs) (ap not m) u

-- What repeats nothing begins with what repeats nothing.
pub distinct_left : (xs ys : List ℕ) → distinct (xs ++ ys) ≡ true → distinct xs ≡ true
unfolding distinct
distinct_left [] ys h = refl
distinct_left (x ∷ xs) ys h =
    distinct_cons x xs (or_neither_left (mem x xs) (mem x ys) (sym (mem_append x xs ys) ∙ distinct_head x (xs ++ ys) h))
    (distinct_left xs ys (distinct_tail x (xs ++ ys) h))

-- Tests that agree keep the same.
pub keep_cong : (p q : ℕ → Bool) (xs : List ℕ) → ((x : ℕ) → p x ≡ q x) → keep p xs ≡ keep q xs
unfolding keep
keep_cong p q [] h = refl
keep_cong p q (x ∷ xs) h = rw (h x, keep_cong p q xs h)

-- What stands in what is kept stood there and passes.
mem_pick : (x y : ℕ) (ys : List ℕ) (t m : Bool) → mem x ys ≡ m → mem x (pick t (y ∷ ys) ys) ≡ ((t && eqb x y) || m)
unfolding mem pick
mem_pick x y ys true m e = ap (λ (b : Bool). eqb x y || b) e
mem_pick x y ys false m e = e

both_test : (a b c d : Bool) → (b ≡ true → a ≡ d) → ((a && b) || (c && d)) ≡ ((b || c) && d)
both_test true true c true h = refl
both_test true true c false h = clash {b = true} refl (h refl)
both_test false true c true h = clash {b = false} (h refl) refl
both_test false true true false h = refl
both_test false true false false h = refl
both_test true false c d h = refl
both_test false false c d h = refl

pub mem_keep : (p : ℕ → Bool) (xs : List ℕ) (x : ℕ) → mem x (keep p xs) ≡ (mem x xs && p x)
unfolding keep mem
mem_keep p [] x = refl
mem_keep p (y ∷ ys) x =
    mem_pick x y (keep p ys) (p y) (mem x ys && p x) (mem_keep p ys x)
    ∙ both_test (p y) (eqb x y) (mem x ys) (p x) (λ e. ap p (sym (eqb-true x y e)))

pub kept_passes : (p : ℕ → Bool) (xs : List ℕ) (x : ℕ) → mem x (keep p xs) ≡ true → p x ≡ true
kept_passes p xs x m = and_right (mem x xs) (p x) (sym (mem_keep p xs x) ∙ m)

length_pick : (y : ℕ) (ys : List ℕ) (t : Bool) → length (pick t (y ∷ ys) ys) ≤ 1 + length ys
unfolding pick
length_pick y ys true = omega arith
length_pick y ys false = omega arith

pub length_keep : (p : ℕ → Bool) (xs : List ℕ) → length (keep p xs) ≤ length xs
unfolding keep
length_keep p [] = omega arith
length_keep p (y ∷ ys) = omega (arith, length_pick y (keep p ys) (p y), length_keep p ys)

distinct_pick : (y : ℕ) (ys : List ℕ) (t : Bool) → mem y ys ≡ false → distinct ys ≡ true → distinct (pick t (y ∷ ys) ys) ≡ true
unfolding pick
distinct_pick y ys true m d = distinct_cons y ys m d
distinct_pick y ys false m d = d

pub distinct_keep : (p : ℕ → Bool) (xs : List ℕ) → distinct xs ≡ true → distinct (keep p xs) ≡ true
unfolding keep distinct
distinct_keep p [] d = refl
distinct_keep p (y ∷ ys) d =
    distinct_pick y (keep p ys) (p y)
    (mem_keep p ys y ∙ and_off_left (mem y ys) (p y) (distinct_head y ys d))
    (distinct_keep p ys (distinct_tail y ys d))

pick_append : (y : ℕ) (xs ys zs : List ℕ) (t : Bool) → zs ≡ xs ++ ys → pick t (y ∷ zs) zs ≡ pick t (y ∷ xs) xs ++ ys
unfolding pick
pick_append y xs ys zs true e = ap (λ (l : List ℕ). y ∷ l) e
pick_append y xs ys zs false e = e

pub keep_append : (p : ℕ → Bool) (xs ys : List ℕ) → keep p (xs ++ ys) ≡ keep p xs ++ keep p ys
unfolding keep
keep_append p [] ys = refl
keep_append p (x ∷ xs) ys = pick_append x (keep p xs) (keep p ys) (keep p (xs ++ ys)) (p x) (keep_append p xs ys)
