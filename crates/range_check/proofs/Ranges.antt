-- Laws of ranges: a range is read entry by entry, and a number stands in one exactly if it has a place there.
-- Assumes nothing.
use mathlib.Core.Path.{◌≡◌, refl, sym, ◌∙◌, ap, subst}
use mathlib.Core.Bool.{Bool, true, false, not, ◌&&◌, ◌||◌, and-true, and-false, and_assoc}
use mathlib.Core.List.{List, [], ◌∷◌, ◌++◌}
use Prim.Native.Nat.{ℕ, zero, suc, ◌+◌, ◌≤◌, ◌<◌}
use native.Mathlib.Numerals.{add-one}
use native.Mathlib.Omega.{arith}
use lib.Dec.{eqb, ltb}
use lib.ListN.{length, get_or, take, drop, length-take, length-drop}
use lib.Seq.{take-suc, get_or-take, get_or-drop}
use borrow.Author.Tests.{ltb-true, ltb-false}
use Rattle.lists.specs.Choice.{Is, is_true, is_false, look, and_both}
use Rattle.lists.specs.Members.{mem, all, distinct, place}
use Rattle.lists.proofs.Members.{mem_append, mem_one, mem-get_or, place_lt, get_or-place, eqb_swap}
use Rattle.formula.specs.Words.{range}
use Rattle.acceptance.specs.Verdict.{is_number}
use Rattle.range_check.specs.Chains.{good_range, is_new}

-- one entry more
range_suc : (ls : List ℕ) (first k : ℕ) → first + k < length ls → range ls first (suc k) ≡ range ls first k ++ (get_or ls (first + k) 0 ∷ [])
unfolding range
range_suc ls first k h =
    let l : k < length (drop first ls) = simp length-drop (omega arith) in
    take-suc (drop first ls) k 0 l ∙ rw get_or-drop

all_snoc : (p : ℕ → Bool) (xs : List ℕ) (x : ℕ) → all p (xs ++ (x ∷ [])) ≡ (all p xs && p x)
unfolding all
all_snoc p [] x = and-true (p x)
all_snoc p (y ∷ ys) x = ap (λ b. p y && b) (all_snoc p ys x) ∙ sym (and_assoc (p y) (all p ys) (p x))

-- m: y stands in ys, e: x is y, d: ys is distinct, n: x stands in ys
apart : (m e d n : Bool) → (not (m || e) && (d && not n)) ≡ ((not m && d) && not (e || n))
apart true e d n = refl
apart false true true n = refl
apart false true false n = refl
apart false false d n = refl

distinct_snoc : (xs : List ℕ) (x : ℕ) → distinct (xs ++ (x ∷ [])) ≡ (distinct xs && not (mem x xs))
unfolding distinct mem
distinct_snoc [] x = refl
distinct_snoc (y ∷ ys) x =
    let m : mem y (ys ++ (x ∷ [])) ≡ (mem y ys || eqb x y) = mem_append y ys (x ∷ []) ∙ ap (λ b. mem y ys || b) (mem_one y x ∙ eqb_swap y x) in
    ap (λ b. not b && distinct (ys ++ (x ∷ []))) m ∙ ap (λ b. not (mem y ys || eqb x y) && b) (distinct_snoc ys x) ∙ apart (mem y ys) (eqb x y) (distinct ys) (mem x ys)

and_cross : (a n d m : Bool) → ((a && n) && (d && m)) ≡ ((a && d) && (n && m))
and_cross true true true m = refl
and_cross true true false m = refl
and_cross true false true m = refl
and_cross true false false m = refl
and_cross false n d m = refl

pub good_none : (ls : List ℕ) (first : ℕ) → good_range ls first 0 ≡ true
unfolding good_range range all distinct
good_none ls first = refl

good_suc : (ls : List ℕ) (first k : ℕ) → first + k < length ls → good_range ls first (suc k) ≡ (good_range ls first k && is_new ls first k)
unfolding good_range
good_suc ls first k h =
    let x : ℕ = get_or ls (first + k) 0 in
    let xs : List ℕ = range ls first k in
    ap (λ l. all is_number l && distinct l) (range_suc ls first k h)
    ∙ rw (all_snoc is_number xs x, distinct_snoc xs x) (and_cross (all is_number xs) (is_number x) (distinct xs) (not (mem x xs)))

-- a new entry keeps a range good
pub good_more : (ls : List ℕ) (first k : ℕ) → first + k < length ls → good_range ls first k ≡ true → is_new ls first k ≡ true → good_range ls first (k + 1) ≡ true
good_more ls first k h g n = rw (add-one k, good_suc ls first k h) (and_both (good_range ls first k) (is_new ls first k) g n)

-- an entry that is not new spoils every range that holds it
pub good_fails : (ls : List ℕ) (first k count : ℕ) → k < count → first + count ≤ length ls → is_new ls first k ≡ false → good_range ls first count ≡ false
good_fails ls first k zero h l f = absurd (omega arith)
good_fails ls first k (suc count) h l f =
    good_suc ls first count (omega arith) ∙ go (look (ltb k count)) (good_fails ls first k count)
  where
    go : Is (ltb k count) → (k < count → first + count ≤ length ls → is_new ls first k ≡ false → good_range ls first count ≡ false)
        → (good_range ls first count && is_new ls first count) ≡ false
    go (is_true t) before =
        let e : good_range ls first count ≡ false = before (ltb-true k count t) (omega arith) f in rw e
    go (is_false t) before =
        let m : count ≤ k = ltb-false k count t in
        let e : k ≡ count = omega arith in
        let g : is_new ls first count ≡ false = subst (λ j. is_new ls first j ≡ false) e f in
        rw g (and-false (good_range ls first count))

-- a number at a place of a range stands in it, ..
pub range_has : (l : List ℕ) (a n x j : ℕ) → a + n ≤ length l → j < n → get_or l (a + j) 0 ≡ x → mem x (range l a n) ≡ true
unfolding range
range_has l a n x j fits h e =
    let w : j < length (take n (drop a l)) = simp (length-take, length-drop) (omega arith) in
    let m : mem (get_or (take n (drop a l)) j 0) (take n (drop a l)) ≡ true = mem-get_or (take n (drop a l)) j 0 w in
    let g : get_or (take n (drop a l)) j 0 ≡ x = get_or-take n (drop a l) j 0 h ∙ get_or-drop a l j 0 ∙ e in
    rw g at m

-- .. and one that stands in it has a place
pub range_from : (l : List ℕ) (a n x : ℕ) → mem x (range l a n) ≡ true → (j : ℕ) × (j < n) × (get_or l (a + j) 0 ≡ x)
unfolding range
range_from l a n x m =
    let j : ℕ = place x (take n (drop a l)) in
    let h : j < length (take n (drop a l)) = place_lt x (take n (drop a l)) m in
    let w : j < n = omega (arith, length-take n (drop a l)) in
    (j, w, sym (get_or-drop a l j 0) ∙ sym (get_or-take n (drop a l) j 0 w) ∙ get_or-place x (take n (drop a l)) 0 m)

pub range_not : (l : List ℕ) (a n x : ℕ) → ((j : ℕ) → j < n → get_or l (a + j) 0 ≡ x → ⊥) → mem x (range l a n) ≡ false
range_not l a n x none = go (look (mem x (range l a n)))
  where
    go : Is (mem x (range l a n)) → mem x (range l a n) ≡ false
    go (is_false f) = f
    go (is_true t) = let j = range_from l a n x t in absurd (none j.0 j.1 j.2)
