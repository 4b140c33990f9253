-- Which nodes are written, from the root down, and what stands for them: where operands are lower than their users, the bounds in
-- `hangs_on` and `literal_at` do not matter.
-- Assumes nothing.
use mathlib.Core.Path.{◌≡◌, refl, ap, ap₂}
use mathlib.Core.Bool.{Bool, true, false, ◌||◌}
use mathlib.Core.List.{List, [], ◌∷◌}
use Prim.Native.Nat.{ℕ, zero, suc, ◌+◌, ◌-◌, ◌≤◌, ◌<◌}
use native.Mathlib.Omega.{arith}
use native.Mathlib.Nat.{not-suc-le-zero}
use lib.Dec.{eqb}
use borrow.Author.Tests.{eqb-true, eqb-false, eq-eqb, ne_eqb}
use Rattle.lists.specs.Choice.{Is, is_true, is_false, look, clash, or_left, or_right, or_cases}
use Rattle.lists.specs.Members.{mem, times}
use Rattle.lists.proofs.Members.{mem_head, mem_tail, mem_nil, times_zero}
use Rattle.lists.proofs.Parts.{sum_positive}
use Rattle.formula.specs.Node.{Node, constant, variable, negation, operator, block, Table, operands}
use Rattle.formula.specs.Tree.{Tree, times_named}
use Rattle.qcir.specs.File.{Literal}
use Rattle.qcir_form.specs.Rows.{RowKind, constant_row, left_row, right_row, and_row, xor_row, row}
use Rattle.qcir_form.specs.File.{row_operands, used_operands, some, hangs_on, written, row_literal, node_literal, literal_at, row_gates, node_gates}

-- Some element passes a test.

pub some_in : (p : ℕ → Bool) (xs : List ℕ) (a : ℕ) → mem a xs ≡ true → p a ≡ true → some p xs ≡ true
unfolding some mem
some_in p [] a m h = clash m refl
some_in p (x ∷ xs) a m h =
    or_cases (eqb a x) (mem a xs) m
    (λ e. or_left (p x) (some p xs) (rw (eqb-true a x e) at h))
    (λ k. or_right (p x) (some p xs) (some_in p xs a k h))

pub some_from : (p : ℕ → Bool) (xs : List ℕ) → some p xs ≡ true → (a : ℕ) × (mem a xs ≡ true) × (p a ≡ true)
unfolding some
some_from p [] h = clash h refl
some_from p (x ∷ xs) h = go (look (p x)) h (some_from p xs)
  where
    go : Is (p x) → (p x || some p xs) ≡ true → (some p xs ≡ true → (a : ℕ) × (mem a xs ≡ true) × (p a ≡ true))
        → (a : ℕ) × (mem a (x ∷ xs) ≡ true) × (p a ≡ true)
    go (is_true e) k next = (x, mem_head x xs, e)
    go (is_false e) k next = let r = next (rw e at k) in (r.0, mem_tail r.0 x xs r.1, r.2)

some_cong : (p r : ℕ → Bool) (xs : List ℕ) → ((a : ℕ) → mem a xs ≡ true → p a ≡ r a) → some p xs ≡ some r xs
unfolding some
some_cong p r [] same = refl
some_cong p r (x ∷ xs) same = ap₂ ◌||◌ (same x (mem_head x xs)) (some_cong p r xs (λ a m. same a (mem_tail a x xs m)))

-- The operands that are not ignored are operands.

row_named : (k : RowKind) (a b c : ℕ) → mem c (row_operands k a b) ≡ true → mem c (a ∷ b ∷ []) ≡ true
unfolding row_operands mem
row_named constant_row a b c m = clash m refl
row_named left_row a b c m =
    or_cases (eqb c a) false m (λ e. or_left (eqb c a) (eqb c b || false) e) (λ e. clash e refl)
row_named right_row a b c m = or_right (eqb c a) (eqb c b || false) m
row_named and_row a b c m = m
row_named xor_row a b c m = m

pub used_named : (nd : Node) (a : ℕ) → mem a (used_operands nd) ≡ true → mem a (operands nd) ≡ true
unfolding used_operands operands
used_named (constant c) a m = m
used_named (variable x) a m = m
used_named (negation b) a m = m
used_named (operator f b c) a m = row_named (row f).kind b c a m
used_named (block q xs b) a m = clash m (mem_nil a)

-- What a node is written as depends only on what stands for the operands that are not ignored.

row_literal-used : (k : RowKind) (whole : Bool) (g a b : ℕ) (at at' : ℕ → Literal)
    → ((c : ℕ) → mem c (row_operands k a b) ≡ true → at c ≡ at' c)
    → row_literal k whole g (at a) (at b) ≡ row_literal k whole g (at' a) (at' b)
unfolding row_literal row_operands
row_literal-used constant_row whole g a b at at' same = refl
row_literal-used left_row whole g a b at at' same = rw (same a (mem_head a []))
row_literal-used right_row whole g a b at at' same = rw (same b (mem_head b []))
row_literal-used and_row whole g a b at at' same = refl
row_literal-used xor_row whole g a b at at' same =
    rw (same a (mem_head a (b ∷ [])), same b (mem_tail b a (b ∷ []) (mem_head b [])))

pub literal_used : (nd : Node) (g : ℕ) (at at' : ℕ → Literal)
    → ((a : ℕ) → mem a (used_operands nd) ≡ true → at a ≡ at' a) → node_literal at g nd ≡ node_literal at' g nd
unfolding node_literal used_operands
literal_used (constant c) g at at' same = refl
literal_used (variable x) g at at' same = refl
literal_used (negation a) g at at' same = rw (same a (mem_head a []))
literal_used (operator f a b) g at at' same = row_literal-used (row f).kind (row f).whole g a b at at' same
literal_used (block q xs a) g at at' same = refl

row_gates-used : (k : RowKind) (left right : Bool) (g a b : ℕ) (at at' : ℕ → Literal)
    → ((c : ℕ) → mem c (row_operands k a b) ≡ true → at c ≡ at' c)
    → row_gates k left right g (at a) (at b) ≡ row_gates k left right g (at' a) (at' b)
unfolding row_gates row_operands
row_gates-used constant_row left right g a b at at' same = refl
row_gates-used left_row left right g a b at at' same = refl
row_gates-used right_row left right g a b at at' same = refl
row_gates-used and_row left right g a b at at' same =
    rw (same a (mem_head a (b ∷ [])), same b (mem_tail b a (b ∷ []) (mem_head b [])))
row_gates-used xor_row left right g a b at at' same =
    rw (same a (mem_head a (b ∷ [])), same b (mem_tail b a (b ∷ []) (mem_head b [])))

pub gates_used : (nd : Node) (g : ℕ) (at at' : ℕ → Literal)
    → ((a : ℕ) → mem a (used_operands nd) ≡ true → at a ≡ at' a) → node_gates at g nd ≡ node_gates at' g nd
unfolding node_gates used_operands
gates_used (constant c) g at at' same = refl
gates_used (variable x) g at at' same = refl
gates_used (negation a) g at at' same = refl
gates_used (operator f a b) g at at' same = row_gates-used (row f).kind (row f).left (row f).right g a b at at' same
gates_used (block q xs a) g at at' same = refl

-- A node hangs on itself.
hang_self : (f : ℕ) (t : Table) (i : ℕ) → 0 < f → hangs_on f t i i ≡ true
unfolding hangs_on
hang_self zero t i h = absurd (not-suc-le-zero h)
hang_self (suc f) t i h = or_left (eqb i i) (some (hangs_on f t i) _) (eq-eqb i i refl)

pub written_root : (t : Table) → 0 < t.size → written t (t.size - 1) ≡ true
unfolding written
written_root t h = hang_self t.size t (t.size - 1) h

module _ (t : Table) (tree : Tree t) where
  -- an operand that is not ignored is lower than its user
  pub used_lower : (j a : ℕ) → j < t.size → mem a (used_operands (t.node j)) ≡ true → a < j
  used_lower j a h m = tree.lower j a h (used_named (t.node j) a m)

  -- any two bounds above a node give the same
  pub hang_bound : (i f g j : ℕ) → j < f → j < g → j < t.size → hangs_on f t i j ≡ hangs_on g t i j
  unfolding hangs_on
  hang_bound i zero g j k l h = absurd (not-suc-le-zero k)
  hang_bound i (suc f) zero j k l h = absurd (not-suc-le-zero l)
  hang_bound i (suc f) (suc g) j k l h =
      ap (λ b. eqb i j || b)
      (some_cong (hangs_on f t i) (hangs_on g t i) (used_operands (t.node j))
      (λ a m. let n : a < j = used_lower j a h m in hang_bound i f g a (omega arith) (omega arith) (omega arith)))

  hang_le : (f i j : ℕ) → j < t.size → hangs_on f t i j ≡ true → i ≤ j
  unfolding hangs_on
  hang_le zero i j h e = clash e refl
  hang_le (suc f) i j h e =
      or_cases (eqb i j) (some (hangs_on f t i) (used_operands (t.node j))) e
      (λ q. omega (arith, eqb-true i j q))
      (λ s.
      let r = some_from (hangs_on f t i) (used_operands (t.node j)) s in
      let l : r.0 < j = used_lower j r.0 h r.1 in
      let k : i ≤ r.0 = hang_le f i r.0 (omega arith) r.2 in omega arith)

  -- what an operand's user hangs on, the operand hangs on
  hang_down : (f i j a : ℕ) → j < f → j < t.size → hangs_on f t i j ≡ true → mem a (used_operands (t.node i)) ≡ true
      → hangs_on f t a j ≡ true
  unfolding hangs_on
  hang_down zero i j a k h e m = absurd (not-suc-le-zero k)
  hang_down (suc f) i j a k h e m =
      or_right (eqb a j) _
      (or_cases (eqb i j) (some (hangs_on f t i) (used_operands (t.node j))) e
      (λ q.
      let same : i ≡ j = eqb-true i j q in
      let here : mem a (used_operands (t.node j)) ≡ true = rw same at m in
      let l : a < j = used_lower j a h here in
      some_in (hangs_on f t a) (used_operands (t.node j)) a here (hang_self f t a (omega arith)))
      (λ s.
      let r = some_from (hangs_on f t i) (used_operands (t.node j)) s in
      let l : r.0 < j = used_lower j r.0 h r.1 in
      some_in (hangs_on f t a) (used_operands (t.node j)) r.0 r.1
      (hang_down f i r.0 a (omega arith) (omega arith) r.2 m)))

  -- what hangs on another node does so by a user
  hang_up : (f a j : ℕ) → j < t.size → hangs_on f t a j ≡ true → eqb a j ≡ false
      → (k : ℕ) × (k ≤ j) × (hangs_on f t k j ≡ true) × (mem a (used_operands (t.node k)) ≡ true)
  unfolding hangs_on
  hang_up zero a j h e n = clash e refl
  hang_up (suc f) a j h e n =
      let r = some_from (hangs_on f t a) (used_operands (t.node j)) (rw n at e) in
      let l : r.0 < j = used_lower j r.0 h r.1 in
      go r.0 r.1 l (look (eqb a r.0)) (hang_up f a r.0 (omega arith) r.2)
    where
      go : (b : ℕ) → mem b (used_operands (t.node j)) ≡ true → b < j → Is (eqb a b)
          → (eqb a b ≡ false → (k : ℕ) × (k ≤ b) × (hangs_on f t k b ≡ true) × (mem a (used_operands (t.node k)) ≡ true))
          → (k : ℕ) × (k ≤ j) × (hangs_on (suc f) t k j ≡ true) × (mem a (used_operands (t.node k)) ≡ true)
      go b m l (is_true s) next = (j, omega arith, hang_self (suc f) t j (omega arith), rw (eqb-true a b s) m)
      go b m l (is_false s) next =
          let r = next s in
          (r.0, omega (arith, r.1), or_right (eqb r.0 j) _ (some_in (hangs_on f t r.0) (used_operands (t.node j)) b m r.2), r.3)

pub written_from : (t : Table) → Tree t → (i : ℕ) → written t i ≡ true → i < t.size
unfolding written
written_from t tree i e =
    let s : 0 < t.size = tree.nonempty in
    let l : i ≤ t.size - 1 = hang_le t tree t.size i (t.size - 1) (omega arith) e in omega arith

pub written_down : (t : Table) → Tree t → (i a : ℕ) → i < t.size → written t i ≡ true
    → mem a (used_operands (t.node i)) ≡ true → written t a ≡ true
unfolding written
written_down t tree i a h e m =
    hang_down t tree t.size i (t.size - 1) a (omega arith) (omega arith) e m

pub written_up : (t : Table) → Tree t → (a : ℕ) → suc a < t.size → written t a ≡ true
    → (j : ℕ) × (j < t.size) × (written t j ≡ true) × (mem a (used_operands (t.node j)) ≡ true)
unfolding written
written_up t tree a h e =
    let n : eqb a (t.size - 1) ≡ false = ne_eqb a (t.size - 1) (λ q. omega arith) in
    let r = hang_up t tree t.size a (t.size - 1) (omega arith) e n in
    (r.0, omega (arith, r.1), r.2, r.3)

-- Any two bounds above a node give the same literal.
pub literal_bound : (t : Table) → Tree t → (gate : ℕ → ℕ) (f g i : ℕ) → i < f → i < g → i < t.size
    → literal_at f t.node gate i ≡ literal_at g t.node gate i
unfolding literal_at
literal_bound t tree gate zero g i k l h = absurd (not-suc-le-zero k)
literal_bound t tree gate (suc f) zero i k l h = absurd (not-suc-le-zero l)
literal_bound t tree gate (suc f) (suc g) i k l h =
    literal_used (t.node i) (gate i) (literal_at f t.node gate) (literal_at g t.node gate)
    (λ a m. let n : a < i = used_lower t tree i a h m in literal_bound t tree gate f g a (omega arith) (omega arith) (omega arith))

pub literal_step : (t : Table) → Tree t → (gate : ℕ → ℕ) (i : ℕ) → i < t.size
    → literal_at t.size t.node gate i ≡ node_literal (literal_at t.size t.node gate) (gate i) (t.node i)
unfolding literal_at
literal_step t tree gate i h = literal_bound t tree gate t.size (suc t.size) i h (omega arith) h

-- Every node but the last has a user.
named_by : (t : Table) → Tree t → (i : ℕ) → suc i < t.size → (j : ℕ) × (j < t.size) × (mem i (operands (t.node j)) ≡ true)
unfolding times_named
named_by t tree i h =
    let r = sum_positive (λ j. times i (operands (t.node j))) t.size (omega (arith, tree.once i h)) in
    (r.0, r.1, go r.0 r.2 (look (mem i (operands (t.node r.0)))))
  where
    go : (j : ℕ) → 0 < times i (operands (t.node j)) → Is (mem i (operands (t.node j))) → mem i (operands (t.node j)) ≡ true
    go j p (is_true m) = m
    go j p (is_false m) = absurd (omega (arith, times_zero i (operands (t.node j)) m))

-- Where no operand is ignored every node is written: those up to k below the last.
module _ (t : Table) (tree : Tree t) (none : (i : ℕ) → i < t.size → used_operands (t.node i) ≡ operands (t.node i)) where
  written_near : (k i : ℕ) → i < t.size → t.size ≤ i + suc k → written t i ≡ true
  written_near zero i h l =
      let e : i ≡ t.size - 1 = omega arith in rw e (written_root t (omega arith))
  written_near (suc k) i h l = go (look (eqb (suc i) t.size)) (written_near k)
    where
      go : Is (eqb (suc i) t.size) → ((j : ℕ) → j < t.size → t.size ≤ j + suc k → written t j ≡ true) → written t i ≡ true
      go (is_true q) next =
          let e : i ≡ t.size - 1 = omega (arith, eqb-true (suc i) t.size q) in rw e (written_root t (omega arith))
      go (is_false q) next =
          let n : suc i ≡ t.size → ⊥ = eqb-false (suc i) t.size q in
          let u = named_by t tree i (omega arith) in
          let lower : i < u.0 = tree.lower u.0 i u.1 u.2 in
          written_down t tree u.0 i u.1 (next u.0 u.1 (omega arith)) (rw (none u.0 u.1) u.2)

pub every_written : (t : Table) → Tree t → ((i : ℕ) → i < t.size → used_operands (t.node i) ≡ operands (t.node i))
    → (i : ℕ) → i < t.size → written t i ≡ true
every_written t tree none i h = written_near t tree none t.size i h (omega arith)
