-- Laws of `link`: what a step along a chain finds.
-- Assumes nothing.
use mathlib.Core.Path.{◌≡◌, refl, sym, ◌∙◌}
use mathlib.Core.Bool.{Bool, true, false, ◌&&◌}
use Prim.Native.Nat.{ℕ, suc, ◌≤◌, ◌<◌}
use native.Mathlib.Omega.{arith}
use lib.Dec.{leb, ltb}
use borrow.Author.Tests.{ltb-true, ltb-false, lt-ltb, le-ltb, leb-true, leb-false, le-leb, lt-leb}
use Rattle.lists.specs.Choice.{pick_yes, pick_no, Is, is_true, is_false, look, clash, and_left, and_right, and_both, and_off_left, and_off_right}
use Rattle.lists.specs.Search.{lowest}
use Rattle.lists.proofs.Search.{lowest_holds, lowest_before, lowest_is, lowest_none, lowest_cong}
use Rattle.arrays.specs.Link.{link}

-- the test from i up
abbrev from : (ℕ → Bool) → ℕ → ℕ → Bool
from p i j = leb i j && p j

from_below : (p : ℕ → Bool) (i j : ℕ) → j < i → from p i j ≡ false
from_below p i j h = and_off_left (leb i j) (p j) (lt-leb i j h)

from_at : (p : ℕ → Bool) (i j : ℕ) → i ≤ j → p j ≡ true → from p i j ≡ true
from_at p i j h e = and_both (leb i j) (p j) (le-leb i j h) e

-- where the chain ends, and where it goes on
link_is : (p : ℕ → Bool) (i n j : ℕ) → lowest (from p i) n ≡ j → j < n → link p i n ≡ suc j
unfolding link
link_is p i n j e h = rw e (pick_yes _ _ _ (lt-ltb j n h))

pub link_stops : (p : ℕ → Bool) (i n : ℕ) → ((k : ℕ) → i ≤ k → k < n → p k ≡ false) → link p i n ≡ 0
unfolding link
link_stops p i n h =
    let e = lowest_none (from p i) n (λ k l. go k l (look (leb i k))) in
    rw e (pick_no _ _ _ (le-ltb n n (omega arith)))
  where
    go : (k : ℕ) → k < n → Is (leb i k) → from p i k ≡ false
    go k l (is_true e) = and_off_right (leb i k) (p k) (h k (leb-true i k e) l)
    go k l (is_false e) = and_off_left (leb i k) (p k) e

pub link_end : (p : ℕ → Bool) (i n : ℕ) → n ≤ i → link p i n ≡ 0
link_end p i n h = link_stops p i n (λ k a b. absurd (omega arith))

pub link_here : (p : ℕ → Bool) (i n : ℕ) → i < n → p i ≡ true → link p i n ≡ suc i
link_here p i n h e =
    link_is p i n i (lowest_is (from p i) n i h (from_at p i i (omega arith) e) (λ j l. from_below p i j l)) h

pub link_cong : (p q : ℕ → Bool) (i n : ℕ) → ((k : ℕ) → i ≤ k → k < n → p k ≡ q k) → link p i n ≡ link q i n
unfolding link
link_cong p q i n h = rw (lowest_cong (from p i) (from q i) n (λ k l. go k l (look (leb i k))))
  where
    go : (k : ℕ) → k < n → Is (leb i k) → from p i k ≡ from q i k
    go k l (is_true e) = rw (h k (leb-true i k e) l)
    go k l (is_false e) = rw e

pub link_skip : (p : ℕ → Bool) (i n : ℕ) → p i ≡ false → link p i n ≡ link p (suc i) n
unfolding link
link_skip p i n h = rw (lowest_cong (from p i) (from p (suc i)) n (λ k l. go k (look (leb i k)) (look (leb (suc i) k))))
  where
    go : (k : ℕ) → Is (leb i k) → Is (leb (suc i) k) → from p i k ≡ from p (suc i) k
    go k (is_true a) (is_true b) = rw (a, b)
    go k (is_false a) (is_false b) = rw (a, b)
    go k (is_false a) (is_true b) =
        let x = leb-false i k a in
        let y = leb-true (suc i) k b in absurd (omega arith)
    go k (is_true a) (is_false b) =
        let x = leb-true i k a in
        let y = leb-false (suc i) k b in
        let e : k ≡ i = omega arith in rw e (and_off_right (leb i i) (p i) h ∙ sym (and_off_right (leb (suc i) i) (p i) h))

-- What a step finds: the next number that passes the test.
pub record Next (p : ℕ → Bool) (i n j : ℕ) : Type 0 where
  pub below : j < n
  pub reached : i ≤ j
  pub passes : p j ≡ true
  pub between : (k : ℕ) → i ≤ k → k < j → p k ≡ false

-- which of the two a link is
data Found (p : ℕ → Bool) (i n : ℕ) : Type 0 where
  found : (j : ℕ) → link p i n ≡ suc j → Next p i n j → Found p i n
  none : link p i n ≡ 0 → ((k : ℕ) → i ≤ k → k < n → p k ≡ false) → Found p i n

before : (p : ℕ → Bool) (i n k : ℕ) → i ≤ k → k < lowest (from p i) n → p k ≡ false
before p i n k h l = go (look (p k))
  where
    go : Is (p k) → p k ≡ false
    go (is_true e) = clash (from_at p i k h e) (lowest_before (from p i) n k l)
    go (is_false e) = e

find : (p : ℕ → Bool) (i n : ℕ) → Is (ltb (lowest (from p i) n) n) → Found p i n
find p i n (is_true e) =
    let j = lowest (from p i) n in
    let l = ltb-true (lowest (from p i) n) n e in
    let h = lowest_holds (from p i) n l in
    found j (link_is p i n j refl l)
    (record {
      below = l;
      reached = leb-true i j (and_left (leb i j) (p j) h);
      passes = and_right (leb i j) (p j) h;
      between = before p i n;
    })
find p i n (is_false e) =
    let l = ltb-false (lowest (from p i) n) n e in
    let all : (k : ℕ) → i ≤ k → k < n → p k ≡ false = λ k h m. before p i n k h (omega arith) in
    none (link_stops p i n all) all

some : (p : ℕ → Bool) (i n j : ℕ) → link p i n ≡ suc j → Found p i n → Next p i n j
some p i n j h (found k e r) = let same : k ≡ j = omega arith in rw same at r
some p i n j h (none e r) = absurd (omega arith)

pub link_some : (p : ℕ → Bool) (i n j : ℕ) → link p i n ≡ suc j → Next p i n j
link_some p i n j h = some p i n j h (find p i n (look _))

nothing : (p : ℕ → Bool) (i n : ℕ) → link p i n ≡ 0 → Found p i n → (k : ℕ) → i ≤ k → k < n → p k ≡ false
nothing p i n h (found k e r) = absurd (omega arith)
nothing p i n h (none e r) = r

pub link_none : (p : ℕ → Bool) (i n : ℕ) → link p i n ≡ 0 → (k : ℕ) → i ≤ k → k < n → p k ≡ false
link_none p i n h = nothing p i n h (find p i n (look _))

le : (p : ℕ → Bool) (i n : ℕ) → Found p i n → link p i n ≤ n
le p i n (found k e r) = omega (arith, r.below)
le p i n (none e r) = omega arith

pub link_le : (p : ℕ → Bool) (i n : ℕ) → link p i n ≤ n
link_le p i n = le p i n (find p i n (look _))
