-- The pass from the root down, one node after the other: it reaches exactly the nodes that are written.
-- Assumes nothing.
use mathlib.Core.Path.{◌≡◌, sym, ◌∙◌, ap}
use mathlib.Core.Bool.{Bool, true, false, ◌&&◌, ◌||◌, or_assoc}
use Prim.Native.Nat.{ℕ, suc, ◌-◌, ◌<◌, ◌≤◌}
use native.Mathlib.Omega.{arith}
use lib.Dec.{eqb, leb, ltb}
use borrow.Author.Tests.{eqb-true, eqb-false, ne_eqb, leb-true, le-leb, ltb-true, ltb-false, lt-ltb}
use Rattle.lists.specs.Choice.{Is, is_true, is_false, look, absent, same_test, and_left, and_right, and_both, or_left, or_right, or_cases, or_neither}
use Rattle.lists.specs.Search.{lowest, some_below}
use Rattle.lists.specs.Members.{mem}
use Rattle.lists.proofs.Search.{lowest_holds, lowest_least}
use Rattle.formula.specs.Node.{Table}
use Rattle.formula.specs.Tree.{Tree}
use Rattle.qcir_form.specs.File.{used_operands, written}
use Rattle.qcir_form.proofs.Written.{written_root, written_down, written_up, written_from, used_lower}
use Rattle.qcir_marks.specs.Marks.{some_from, reached}

-- Some number passes.

pub some_in : (p : ℕ → Bool) (n j : ℕ) → j < n → p j ≡ true → some_below p n ≡ true
unfolding some_below
some_in p n j h t = let l = lowest_least p n j h t in lt-ltb (lowest p n) n (omega arith)

pub some_out : (p : ℕ → Bool) (n : ℕ) → some_below p n ≡ true → (j : ℕ) × (j < n) × (p j ≡ true)
unfolding some_below
some_out p n h = let l = ltb-true (lowest p n) n h in (lowest p n, l, lowest_holds p n l)

module _ (p : ℕ → Bool) where
  from_in : (k n j : ℕ) → k ≤ j → j < n → p j ≡ true → some_from p k n ≡ true
  unfolding some_from
  from_in k n j a b t = some_in (λ i. leb k i && p i) n j b (and_both (leb k j) (p j) (le-leb k j a) t)

  from_out : (k n : ℕ) → some_from p k n ≡ true → (j : ℕ) × (k ≤ j) × (j < n) × (p j ≡ true)
  unfolding some_from
  from_out k n h =
      let o = some_out (λ i. leb k i && p i) n h in
      (o.0, leb-true k o.0 (and_left (leb k o.0) (p o.0) o.2), o.1, and_right (leb k o.0) (p o.0) o.2)

  pub from_step : (k n : ℕ) → k < n → some_from p k n ≡ (some_from p (suc k) n || p k)
  from_step k n h = same_test _ _ (λ q. down (from_out k n q)) (λ q. or_cases (some_from p (suc k) n) (p k) q (λ a. up (from_out (suc k) n a)) (λ a. from_in k n k (omega arith) h a))
    where
      down : (j : ℕ) × (k ≤ j) × (j < n) × (p j ≡ true) → (some_from p (suc k) n || p k) ≡ true
      down (j, a, b, t) = go (look (eqb j k))
        where
          go : Is (eqb j k) → (some_from p (suc k) n || p k) ≡ true
          go (is_true e) = or_right (some_from p (suc k) n) (p k) (ap p (sym (eqb-true j k e)) ∙ t)
          go (is_false e) = let d = eqb-false j k e in or_left (some_from p (suc k) n) (p k) (from_in (suc k) n j (omega arith) b t)

      up : (j : ℕ) × (suc k ≤ j) × (j < n) × (p j ≡ true) → some_from p k n ≡ true
      up (j, a, b, t) = from_in k n j (omega arith) b t

  pub from_none : (n : ℕ) → some_from p n n ≡ false
  from_none n = absent (some_from p n n) (λ q. let o = from_out n n q in omega (arith, o.1, o.2))

  pub from_all : (n : ℕ) → some_from p 0 n ≡ some_below p n
  from_all n =
      same_test _ _
      (λ q. let o = from_out 0 n q in some_in p n o.0 o.2 o.3)
      (λ q. let o = some_out p n q in from_in 0 n o.0 (omega arith) o.1 o.2)

-- Nodes.

module _ (t : Table) (tr : Tree t) where
  abbrev uses : ℕ → ℕ → Bool
  uses i j = written t j && mem i (used_operands (t.node j))

  -- once the nodes above i are done, i is reached if it is written
  pub reached_written : (k i : ℕ) → i < t.size → k ≤ suc i → reached t k i ≡ written t i
  unfolding reached
  reached_written k i h l =
      same_test _ _
      (λ q. or_cases (eqb (suc i) t.size) (some_from (uses i) k t.size) q root (λ a. from (from_out (uses i) k t.size a)))
      (λ w. go w (look (eqb (suc i) t.size)))
    where
      root : eqb (suc i) t.size ≡ true → written t i ≡ true
      root e =
          let s : suc i ≡ t.size = eqb-true _ _ e in
          let q : t.size - 1 ≡ i = omega arith in
          ap (written t) (sym q) ∙ written_root t (omega arith)

      from : (j : ℕ) × (k ≤ j) × (j < t.size) × (uses i j ≡ true) → written t i ≡ true
      from (j, a, b, u) = written_down t tr j i b (and_left (written t j) _ u) (and_right (written t j) _ u)

      go : written t i ≡ true → Is (eqb (suc i) t.size) → (eqb (suc i) t.size || some_from (uses i) k t.size) ≡ true
      go w (is_true e) = or_left (eqb (suc i) t.size) _ e
      go w (is_false e) =
          let d = eqb-false (suc i) t.size e in
          let u = written_up t tr i (omega arith) w in
          let j = u.0 in
          let low = used_lower t tr j i u.1 u.3 in
          or_right (eqb (suc i) t.size) _ (from_in (uses i) k t.size j (omega (arith, low)) u.1 (and_both (written t j) _ u.2 u.3))

  -- no node past the end is
  reached_past : (k i : ℕ) → t.size ≤ i → reached t k i ≡ false
  unfolding reached
  reached_past k i h =
      or_neither (eqb (suc i) t.size) _ (ne_eqb (suc i) t.size (λ e. omega arith))
      (absent _ (λ q. past (from_out (uses i) k t.size q)))
    where
      past : (j : ℕ) × (k ≤ j) × (j < t.size) × (uses i j ≡ true) → ⊥
      past (j, a, b, u) = let l = used_lower t tr j i b (and_right (written t j) _ u) in omega arith

  pub reached_all : (i : ℕ) → reached t 0 i ≡ written t i
  reached_all i = go (look (ltb i t.size))
    where
      go : Is (ltb i t.size) → reached t 0 i ≡ written t i
      go (is_true e) = reached_written 0 i (ltb-true _ _ e) (omega arith)
      go (is_false e) =
          let l = ltb-false i t.size e in
          reached_past 0 i l ∙ sym (absent (written t i) (λ w. let m = written_from t tr i w in omega arith))

  pub reached_step : (k i : ℕ) → k < t.size → reached t k i ≡ (reached t (suc k) i || (written t k && mem i (used_operands (t.node k))))
  unfolding reached
  reached_step k i h = rw (from_step (uses i) k t.size h) (sym (or_assoc (eqb (suc i) t.size) (some_from (uses i) (suc k) t.size) (uses i k)))
