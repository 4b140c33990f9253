-- Laws of chains: a walk down a chain finds a variable exactly if one of the block's entries that it comes past is it, and a
-- push keeps the chains.
-- Assumes nothing.
use mathlib.Core.Path.{◌≡◌, sym, ◌∙◌, ap, subst}
use mathlib.Core.Bool.{Bool, true, false, not}
use mathlib.Core.List.{List}
use Prim.Native.Nat.{ℕ, ◌+◌, ◌-◌, ◌%◌, ◌≤◌, ◌<◌}
use native.Mathlib.Omega.{arith}
use lib.Dec.{eqb, ltb}
use lib.ListN.{length, get_or, set, replicate, length-set, length-replicate}
use borrow.Author.Tests.{eqb-true, eqb-false, ltb-true, ltb-false}
use Rattle.lists.specs.Choice.{Is, is_true, is_false, look, clash}
use Rattle.lists.specs.Members.{mem}
use Rattle.lists.proofs.Stores.{get_or-filled, set_cases}
use Rattle.formula.specs.Words.{range}
use Rattle.acceptance.specs.Limits.{limit}
use Rattle.acceptance.specs.Verdict.{is_number}
use Rattle.range_check.specs.Chains.{buckets, Latest, Linked, Earlier, Chains, Chain, is_new}
use Rattle.range_check.proofs.Ranges.{range_has, range_from, range_not}

-- What holds of a walk that has come from `head` down to c.
pub record Walked (ls prevs : List ℕ) (before first head x c : ℕ) : Type 0 where
  pub low : c ≤ head
  pub chain : Chain ls prevs before first x c
  pub missed : (j : ℕ) → c ≤ before + j → before + j < head → get_or ls (first + j) 0 ≡ x → ⊥

pub walked_none : (ls prevs : List ℕ) (before first head x : ℕ) → Chain ls prevs before first x head → Walked ls prevs before first head x head
walked_none ls prevs before first head x h =
    record { low = omega arith; chain = h; missed = λ j a b e. omega arith }

module _ (ls prevs : List ℕ) (before first head x c : ℕ) (w : Walked ls prevs before first head x c) (own : before < c) where
  -- the block's entry where the walk has come
  abbrev entry : ℕ
  entry = c - before - 1

  -- the entry after it on the chain
  abbrev following : ℕ
  following = get_or prevs (before + entry) 0

  next : Latest ls before first (x % buckets) entry following
  next =
      let s : get_or ls (first + entry) 0 % buckets ≡ x % buckets = w.chain.shares entry (omega arith) in
      subst (λ h. Latest ls before first h entry following) s (w.chain.linked entry (omega arith))

  pub walked_more : (get_or ls (first + entry) 0 ≡ x → ⊥) → Walked ls prevs before first head x following
  walked_more not_here =
      let l : following ≤ before + entry = next.low in
      let h : c ≤ head = w.low in
      let n : first + (c - before) ≤ length ls = w.chain.in_list in
      let p : c ≤ length prevs = w.chain.in_prevs in
      record {
        low = omega arith;
        chain = record {
          in_list = omega arith;
          in_prevs = omega arith;
          shares = next.shares;
          linked = λ j b. w.chain.linked j (omega arith);
        };
        missed = λ j a b e. go j a b e (look (ltb j entry)) (look (eqb j entry));
      }
    where
      go : (j : ℕ) → following ≤ before + j → before + j < head → get_or ls (first + j) 0 ≡ x → Is (ltb j entry) → Is (eqb j entry) → ⊥
      go j a b e (is_true t) s = next.none j a (ltb-true j entry t) (ap (λ y. y % buckets) e)
      go j a b e (is_false t) (is_true s) = not_here (ap (λ i. get_or ls (first + i) 0) (sym (eqb-true j entry s)) ∙ e)
      go j a b e (is_false t) (is_false s) =
          let u : entry ≤ j = ltb-false j entry t in
          let v : j ≡ entry → ⊥ = eqb-false j entry s in
          w.missed j (omega arith) b e

  pub walked_found : get_or ls (first + entry) 0 ≡ x → first + (head - before) ≤ length ls → mem x (range ls first (head - before)) ≡ true
  walked_found e n =
      let l : c ≤ head = w.low in
      range_has ls first (head - before) x entry n (omega arith) e

pub walked_end : (ls prevs : List ℕ) (before first head x c : ℕ) → Walked ls prevs before first head x c → c ≤ before → mem x (range ls first (head - before)) ≡ false
walked_end ls prevs before first head x c w h =
    range_not ls first (head - before) x (λ j b e. w.missed j (omega arith) (omega arith) e)

at_or_below {ℓ} : {A : Type ℓ} (k e : ℕ) → k < e + 1 → (k < e → A) → (k ≡ e → A) → A
at_or_below {A} k e b below here = go (look (ltb k e))
  where
    go : Is (ltb k e) → A
    go (is_true t) = below (ltb-true k e t)
    go (is_false t) = let l : e ≤ k = ltb-false k e t in here (omega arith)

-- New arrays chain no entry.
pub earlier_new : Earlier (replicate buckets 0) (replicate limit 0) 0
earlier_new =
    record {
      heads_wide = length-replicate {A = ℕ} buckets 0;
      prevs_wide = length-replicate {A = ℕ} limit 0;
      low = λ h. rw (get_or-filled {A = ℕ} buckets h 0) (omega arith);
    }

-- The chains of the blocks before hold none of a block's entries, ..
pub chains_none : (ls heads prevs : List ℕ) (before first : ℕ) → Earlier heads prevs before → Chains ls heads prevs before first 0
chains_none ls heads prevs before first p =
    record {
      heads_wide = p.heads_wide;
      prevs_wide = p.prevs_wide;
      newest = λ h. let l : get_or heads h 0 ≤ before = p.low h in
          record { low = omega arith; shares = λ j e. omega arith; none = λ j a b e. omega arith };
      linked = λ j b. omega arith;
    }

-- .. and once its entries are chained, the next block's come after them.
pub chains_earlier : (ls heads prevs : List ℕ) (before first k : ℕ) → Chains ls heads prevs before first k → Earlier heads prevs (before + k)
chains_earlier ls heads prevs before first k p =
    record { heads_wide = p.heads_wide; prevs_wide = p.prevs_wide; low = λ h. (p.newest h).low }

module _ (ls heads prevs : List ℕ) (before first k : ℕ) (room : before + k < limit) (fits : first + k < length ls) (p : Chains ls heads prevs before first k) where
  -- the variable of the entry after these
  abbrev x : ℕ
  x = get_or ls (first + k) 0

  abbrev head : ℕ
  head = get_or heads (x % buckets) 0

  -- the chain of x, from its head on
  pub chain_of : Chain ls prevs before first x head
  chain_of =
      let l : head ≤ before + k = (p.newest (x % buckets)).low in
      let q : length prevs ≡ limit = p.prevs_wide in
      record {
        in_list = omega arith;
        in_prevs = omega arith;
        shares = (p.newest (x % buckets)).shares;
        linked = λ j b. p.linked j (omega arith);
      }

  -- from its head on, the chain of x passes over no entry that is x
  above : mem x (range ls first (head - before)) ≡ false → (j : ℕ) → j < k → get_or ls (first + j) 0 ≡ x → Is (ltb (before + j) head) → ⊥
  above f j b q (is_true t) =
      let l : head ≤ before + k = (p.newest (x % buckets)).low in
      let s : before + j < head = ltb-true _ _ t in
      clash (range_has ls first (head - before) x j (omega arith) (omega arith) q) f
  above f j b q (is_false t) =
      (p.newest (x % buckets)).none j (ltb-false _ _ t) b (ap (λ y. y % buckets) q)

  on_chain : mem x (range ls first (head - before)) ≡ mem x (range ls first k)
  on_chain = go (look (mem x (range ls first (head - before))))
    where
      go : Is (mem x (range ls first (head - before))) → mem x (range ls first (head - before)) ≡ mem x (range ls first k)
      go (is_true t) =
          let l : head ≤ before + k = (p.newest (x % buckets)).low in
          let j = range_from ls first (head - before) x t in
          t ∙ sym (range_has ls first k x j.0 (omega arith) (omega (arith, j.1)) j.2)
      go (is_false f) = f ∙ sym (range_not ls first k x (λ j b q. above f j b q (look (ltb (before + j) head))))

  -- what the walk's answer says of a variable number
  pub new_is : (found : Bool) → is_number x ≡ true → found ≡ mem x (range ls first (head - before)) → not found ≡ is_new ls first k
  new_is found n f = rw n (ap not (f ∙ on_chain))

  -- What a push of the entry does.
  abbrev heads' : List ℕ
  heads' = set heads (x % buckets) (before + k + 1)

  abbrev prevs' : List ℕ
  prevs' = set prevs (before + k) head

  newest' : (h : ℕ) → Latest ls before first h (k + 1) (get_or heads' h 0)
  newest' h =
      let w : length heads ≡ buckets = p.heads_wide in
      set_cases heads (x % buckets) (before + k + 1) 0 (omega arith) (λ c. Latest ls before first h (k + 1) c) h here other
    where
      here : h ≡ x % buckets → Latest ls before first h (k + 1) (before + k + 1)
      here q =
          record {
            low = omega arith;
            shares = λ j s. let t : j ≡ k = omega arith in ap (λ i. get_or ls (first + i) 0 % buckets) t ∙ sym q;
            none = λ j a b s. omega arith;
          }

      other : (h ≡ x % buckets → ⊥) → Latest ls before first h (k + 1) (get_or heads h 0)
      other ne =
          let l : Latest ls before first h k (get_or heads h 0) = p.newest h in
          let w : get_or heads h 0 ≤ before + k = l.low in
          record {
            low = omega arith;
            shares = l.shares;
            none = λ j a b s.
                at_or_below j k b (λ below. l.none j a below s) (λ q. ne (sym s ∙ ap (λ i. get_or ls (first + i) 0 % buckets) q));
          }

  linked' : Linked ls prevs' before first (k + 1)
  linked' j b =
      let w : length prevs ≡ limit = p.prevs_wide in
      set_cases prevs (before + k) head 0 (omega arith) (λ c. Latest ls before first (get_or ls (first + j) 0 % buckets) j c) (before + j)
      here
      (λ ne. p.linked j (omega arith))
    where
      here : before + j ≡ before + k → Latest ls before first (get_or ls (first + j) 0 % buckets) j head
      here q =
          let t : k ≡ j = omega arith in
          subst (λ i. Latest ls before first (get_or ls (first + i) 0 % buckets) i head) t (p.newest (x % buckets))

  pub chains_more : Chains ls heads' prevs' before first (k + 1)
  chains_more =
      record {
        heads_wide = length-set heads (x % buckets) (before + k + 1) ∙ p.heads_wide;
        prevs_wide = length-set prevs (before + k) head ∙ p.prevs_wide;
        newest = newest';
        linked = linked';
      }
