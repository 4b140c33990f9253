-- Laws of the list of a node's users (specs/Laws.antt), and that the last node has none.
-- Assumes nothing.
use mathlib.Core.Path.{◌≡◌, sym, ◌∙◌, ap, subst}
use mathlib.Core.Bool.{true}
use mathlib.Core.List.{List, ◌++◌}
use Prim.Native.Nat.{ℕ, zero, suc, ◌+◌, ◌-◌, ◌<◌, ◌≤◌}
use native.Mathlib.Omega.{arith}
use native.Mathlib.Nat.{not-suc-le-zero}
use lib.Dec.{eqb, ltb}
use lib.ListN.{length, get_or, replicate, length-append, length-replicate, get_or-replicate, get_or-append}
use lib.Seq.{get_or-append-add}
use borrow.Author.Tests.{eqb-true, eqb-false, ne_eqb, ltb-true, ltb-false, lt-ltb, le-ltb}
use Rattle.lists.specs.Choice.{pick, pick_yes, pick_no, Is, is_true, is_false, look, absent}
use Rattle.lists.specs.Members.{mem, times, Ascending}
use Rattle.lists.specs.Parts.{up_to, sum}
use Rattle.lists.proofs.Members.{times_zero, times_append, times_replicate, ascending_one}
use Rattle.lists.proofs.Parts.{length-up_to, sum_cong, sum_zero}
use Rattle.formula.specs.Node.{Table, operands}
use Rattle.formula.specs.Tree.{users, times_named}
use Rattle.formula.specs.Laws.{UsersRead, OneListOfUsers, UsersCounted}

-- The numbers below n, ascending, number j standing c j times.
module _ (c : ℕ → ℕ) where
  abbrev repeated : ℕ → List ℕ
  repeated n = up_to (λ j. replicate (c j) j) n

  repeated_length : (n : ℕ) → length (repeated n) ≡ sum c n
  repeated_length n = length-up_to _ n ∙ sum_cong _ _ n (λ j h. length-replicate (c j) j)

  -- how often x stands there, with one number more
  times_more : (n x r : ℕ) → Is (ltb x n) → Is (eqb x n) → r ≡ pick (ltb x n) (c x) 0
      → r + pick (eqb x n) (c n) 0 ≡ pick (ltb x (suc n)) (c x) 0
  times_more n x r (is_true l) _ e =
      let h : x < n = ltb-true x n l in
      let here : pick (ltb x n) (c x) 0 ≡ c x = pick_yes {A = ℕ} _ _ _ l in
      let not_last : pick (eqb x n) (c n) 0 ≡ 0 = pick_no {A = ℕ} _ _ _ (ne_eqb x n (λ z. omega arith)) in
      let all : pick (ltb x (suc n)) (c x) 0 ≡ c x = pick_yes {A = ℕ} _ _ _ (lt-ltb x (suc n) (omega arith)) in omega arith
  times_more n x r (is_false l) (is_true q) e =
      let h : x ≡ n = eqb-true x n q in
      let same : c x ≡ c n = ap c h in
      let before : pick (ltb x n) (c x) 0 ≡ 0 = pick_no {A = ℕ} _ _ _ l in
      let last : pick (eqb x n) (c n) 0 ≡ c n = pick_yes {A = ℕ} _ _ _ q in
      let all : pick (ltb x (suc n)) (c x) 0 ≡ c x = pick_yes {A = ℕ} _ _ _ (lt-ltb x (suc n) (omega arith)) in omega arith
  times_more n x r (is_false l) (is_false q) e =
      let g : n ≤ x = ltb-false x n l in
      let h : x ≡ n → ⊥ = eqb-false x n q in
      let before : pick (ltb x n) (c x) 0 ≡ 0 = pick_no {A = ℕ} _ _ _ l in
      let not_last : pick (eqb x n) (c n) 0 ≡ 0 = pick_no {A = ℕ} _ _ _ q in
      let none : pick (ltb x (suc n)) (c x) 0 ≡ 0 = pick_no {A = ℕ} _ _ _ (le-ltb x (suc n) (omega arith)) in omega arith

  repeated_times : (n x : ℕ) → times x (repeated n) ≡ pick (ltb x n) (c x) 0
  unfolding up_to times
  repeated_times zero x = sym (pick_no {A = ℕ} _ _ _ (le-ltb x 0 (omega arith)))
  repeated_times (suc n) x =
      times_append x (repeated n) (replicate (c n) n)
      ∙ ap (λ (k : ℕ). times x (repeated n) + k) (times_replicate (c n) n x)
      ∙ times_more n x _ (look (ltb x n)) (look (eqb x n)) (repeated_times n x)

  -- an element of the list with one number more is one of the list without it, or that number
  at : (P : ℕ → Type 0) (n k : ℕ) → k < length (repeated (suc n))
      → (k < length (repeated n) → P (get_or (repeated n) k 0)) → (length (repeated n) ≤ k → P n) → P (get_or (repeated (suc n)) k 0)
  unfolding up_to
  at P n k h low last = go (look (ltb k (length (repeated n))))
    where
      go : Is (ltb k (length (repeated n))) → P (get_or (repeated n ++ replicate (c n) n) k 0)
      go (is_true t) =
          let l : k < length (repeated n) = ltb-true _ _ t in
          subst P (sym (get_or-append (repeated n) (replicate (c n) n) 0 k l)) (low l)
      go (is_false t) =
          let l : length (repeated n) ≤ k = ltb-false _ _ t in
          let r : ℕ = k - length (repeated n) in
          let both : length (repeated n ++ replicate (c n) n) ≡ length (repeated n) + length (replicate (c n) n) = length-append (repeated n) (replicate (c n) n) in
          let reps : length (replicate (c n) n) ≡ c n = length-replicate (c n) n in
          let s : length (repeated n) + r ≡ k = omega arith in
          let e : get_or (repeated n ++ replicate (c n) n) k 0 ≡ n =
          ap (λ (m : ℕ). get_or (repeated n ++ replicate (c n) n) m 0) (sym s)
          ∙ get_or-append-add (repeated n) (replicate (c n) n) r 0
          ∙ get_or-replicate (c n) r n 0 (omega arith) in
          subst P (sym e) (last l)

  repeated_below : (n k : ℕ) → k < length (repeated n) → get_or (repeated n) k 0 < n
  unfolding up_to
  repeated_below zero k h = absurd (not-suc-le-zero h)
  repeated_below (suc n) k h = at (λ x. x < suc n) n k h (λ l. omega (arith, repeated_below n k l)) (λ l. omega arith)

  repeated_ascending : (n : ℕ) → Ascending (repeated n)
  unfolding up_to
  repeated_ascending zero k m l h = absurd (not-suc-le-zero h)
  repeated_ascending (suc n) k m l h =
      at (λ y. get_or (repeated (suc n)) k 0 ≤ y) n m h
      (λ hm. at (λ x. x ≤ get_or (repeated n) m 0) n k (omega arith) (λ hk. repeated_ascending n k m l hm) (λ hk. absurd (omega arith)))
      (λ hm. at (λ x. x ≤ n) n k (omega arith) (λ hk. omega (arith, repeated_below n k hk)) (λ hk. omega arith))

pub users_read : UsersRead
unfolding users
users_read t i =
    let c : ℕ → ℕ = λ j. times i (operands (t.node j)) in
    record { named = repeated_times c t.size; ascending = repeated_ascending c t.size }

pub one_list_of_users : OneListOfUsers
one_list_of_users t i us us' p q = ascending_one us us' p.ascending q.ascending (λ j. p.named j ∙ sym (q.named j))

pub users_counted : UsersCounted
unfolding users times_named
users_counted t i = repeated_length (λ j. times i (operands (t.node j))) t.size

-- Where operands and bodies are lower, nothing names the last node.
pub last_unnamed : (t : Table) → ((i a : ℕ) → i < t.size → mem a (operands (t.node i)) ≡ true → a < i)
    → (k : ℕ) → t.size ≤ suc k → times_named t k ≡ 0
unfolding times_named
last_unnamed t lower k e =
    sum_zero _ t.size (λ j h. times_zero k (operands (t.node j)) (absent _ (λ n. let l : k < j = lower j k h n in omega arith)))
