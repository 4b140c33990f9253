-- Laws of the free variables of a tree (specs/Laws.antt): the list of them, and that there are at most as many as leaves.
-- Assumes nothing.
use mathlib.Core.Path.{◌≡◌, refl, sym, ◌∙◌, ap}
use mathlib.Core.Bool.{Bool, true, false, not, ◌&&◌}
use mathlib.Core.List.{[], ◌∷◌}
use Prim.Native.Nat.{ℕ, zero, suc, ◌+◌, ◌*◌, ◌-◌, ◌≤◌, ◌<◌}
use native.Mathlib.Omega.{arith}
use lib.Dec.{eqb}
use lib.ListN.{length}
use borrow.Author.Tests.{eqb-true, eq-eqb, not-true}
use Rattle.lists.specs.Choice.{pick, pick_yes, pick_no, Is, is_true, is_false, look, clash, and_left, and_right, and_both, or_left, or_right, or_cases}
use Rattle.lists.specs.Members.{mem, times}
use Rattle.lists.specs.Parts.{passing, sum, highest}
use Rattle.lists.proofs.Members.{mem_one, mem_head, mem_tail}
use Rattle.lists.proofs.Parts.{sum_cong, sum_mono, sum_add, sum_zero, term_le, highest_ge}
use Rattle.lists.proofs.Passing.{passing_lists, passing_length}
use Rattle.lists.proofs.Sums.{sum_swap, sum_ones, sum_at_most, sum_times}
use Rattle.formula.specs.Node.{Node, constant, variable, negation, operator, block, Table, operands, is_block, bound}
use Rattle.formula.specs.Words.{table_of}
use Rattle.formula.specs.Truth.{node_free, free_at, free}
use Rattle.formula.specs.Form.{blocks_of, binds, form_free}
use Rattle.formula.specs.FreeVariables.{stands_at, number_at, highest_variable, free_variables, form_free_variables}
use Rattle.formula.specs.Tree.{Tree, times_named}
use Rattle.formula.specs.Laws.{FreeListed, FormFreeListed, TableByList, FormByList, FreeFew}
use Rattle.formula.proofs.Coincidence.{coincidence, form_coincidence}
use Rattle.formula.proofs.Users.{last_unnamed}

-- Why x is free in a node: it stands there, or it is free in an operand and the node does not bind it.
pub data Through (at : ℕ → Bool) (x : ℕ) (nd : Node) : Type 0 where
  here : nd ≡ variable x → Through at x nd
  through : (a : ℕ) → mem a (operands nd) ≡ true → at a ≡ true → (is_block nd && mem x (bound nd)) ≡ false → Through at x nd

pub free_through : (at : ℕ → Bool) (x : ℕ) (nd : Node) → node_free at x nd ≡ true → Through at x nd
unfolding node_free operands is_block bound
free_through at x (constant b) h = clash h refl
free_through at x (variable y) h = here (ap variable (sym (eqb-true x y h)))
free_through at x (negation a) h = through a (mem_head a []) h refl
free_through at x (operator f a b) h =
    or_cases (at a) (at b) h
    (λ k. through a (mem_head a (b ∷ [])) k refl)
    (λ k. through b (mem_tail b a (b ∷ []) (mem_head b [])) k refl)
free_through at x (block q xs a) h =
    through a (mem_head a []) (and_right (not (mem x xs)) (at a) h) (not-true (mem x xs) (and_left (not (mem x xs)) (at a) h))

one_operand_lem : (i a : ℕ) (at : ℕ → Bool) → mem i (a ∷ []) ≡ true → at i ≡ true → at a ≡ true
one_operand_lem i a at m h = rw (eqb-true i a (sym (mem_one i a) ∙ m)) at h

pub through_free : (at : ℕ → Bool) (x : ℕ) (nd : Node) (i : ℕ) → mem i (operands nd) ≡ true → at i ≡ true
    → (is_block nd && mem x (bound nd)) ≡ false → node_free at x nd ≡ true
unfolding node_free operands is_block bound mem
through_free at x (constant b) i m h n = clash m refl
through_free at x (variable y) i m h n = clash m refl
through_free at x (negation a) i m h n = one_operand_lem i a at m h
through_free at x (operator f a b) i m h n =
    or_cases (eqb i a) (mem i (b ∷ [])) m
    (λ e. or_left (at a) (at b) (rw (eqb-true i a e) at h))
    (λ k. or_right (at a) (at b) (one_operand_lem i b at k h))
through_free at x (block q xs a) i m h n = and_both _ _ (ap not n) (one_operand_lem i a at m h)

-- x stands at a variable node of the table.
pub record Occurs (t : Table) (x : ℕ) : Type 0 where
  pub node : ℕ
  pub within : node < t.size
  pub variable_is : t.node node ≡ variable x

module _ (t : Table) (tree : Tree t) where
  free_occurs_at : (x f i : ℕ) → i < t.size → free_at f t x i ≡ true → Occurs t x
  unfolding free_at
  free_occurs_at x zero i h e = clash e refl
  free_occurs_at x (suc f) i h e = go (free_through (free_at f t x) x (t.node i) e) (free_occurs_at x f)
    where
      go : Through (free_at f t x) x (t.node i) → ((a : ℕ) → a < t.size → free_at f t x a ≡ true → Occurs t x) → Occurs t x
      go (here v) next = record { node = i; within = h; variable_is = v }
      go (through a m k n) next = next a (let l : a < i = tree.lower i a h m in omega arith) k

  pub free_occurs : (x : ℕ) → free t x ≡ true → Occurs t x
  unfolding free
  free_occurs x e = let h : 0 < t.size = tree.nonempty in free_occurs_at x t.size (t.size - 1) (omega arith) e

  free_below : (x : ℕ) → free t x ≡ true → x < suc (highest_variable t)
  unfolding highest_variable number_at
  free_below x e =
      let o = free_occurs x e in
      let n : number_at (t.node o.node) ≡ x = ap number_at o.variable_is in
      let l : number_at (t.node o.node) ≤ highest (λ i. number_at (t.node i)) t.size = highest_ge (λ i. number_at (t.node i)) t.size o.node o.within in
      omega arith

pub free_listed : FreeListed
unfolding free_variables
free_listed t tree = passing_lists (free t) (suc (highest_variable t)) (free_below t tree)

pub form_free-listed : FormFreeListed
unfolding form_free_variables form_free
form_free-listed ns ps xs tree =
    passing_lists (form_free ns ps xs) (suc (highest_variable (table_of ns [])))
    (λ x e. free_below (table_of ns []) tree x (and_left (free (table_of ns []) x) (not (binds (blocks_of ps xs) x)) e))

pub table_by_list : TableByList
table_by_list t tree v u same = coincidence t v u (λ x e. same x ((free_listed t tree).members x ∙ e))

pub form_by_list : FormByList
form_by_list ns ps xs tree v u same = form_coincidence ns ps xs v u (λ x e. same x ((form_free-listed ns ps xs tree).members x ∙ e))

-- How many: 1 at a variable node, 0 at another.
unfoldable pub variables : Node → ℕ
variables (constant b) = 0
variables (variable x) = 1
variables (negation a) = 0
variables (operator f a b) = 0
variables (block q xs a) = 0

-- a variable node has no operands, and no node more than two
variables_operands : (nd : Node) → variables nd + variables nd + length (operands nd) ≤ 1 + 1
unfolding operands variables
variables_operands (constant b) = omega arith
variables_operands (variable x) = omega arith
variables_operands (negation a) = omega arith
variables_operands (operator f a b) = omega arith
variables_operands (block q xs a) = omega arith

-- a node holds at most one number
numbers_held : (nd : Node) (m : ℕ) → sum (λ x. pick (stands_at x nd) 1 0) m ≤ variables nd
unfolding stands_at variables
numbers_held (constant b) m = omega (arith, sum_zero (λ x. pick false 1 0) m (λ x h. pick_no {A = ℕ} _ _ _ refl))
numbers_held (variable y) m = sum_at_most y 1 m
numbers_held (negation a) m = omega (arith, sum_zero (λ x. pick false 1 0) m (λ x h. pick_no {A = ℕ} _ _ _ refl))
numbers_held (operator f a b) m = omega (arith, sum_zero (λ x. pick false 1 0) m (λ x h. pick_no {A = ℕ} _ _ _ refl))
numbers_held (block q xs a) m = omega (arith, sum_zero (λ x. pick false 1 0) m (λ x h. pick_no {A = ℕ} _ _ _ refl))

sum_last : (f : ℕ → ℕ) (n m : ℕ) → n ≡ suc m → sum f n ≡ sum f m + f m
unfolding sum
sum_last f n m e = ap (sum f) e

-- There are no more numbers that pass a test than variable nodes, if each of them stands at one.
module _ (t : Table) (p : ℕ → Bool) (stands : (x : ℕ) → p x ≡ true → Occurs t x) where
  held_once : (x : ℕ) → pick (p x) 1 0 ≤ sum (λ i. pick (stands_at x (t.node i)) 1 0) t.size
  unfolding stands_at
  held_once x = go (look (p x))
    where
      go : Is (p x) → pick (p x) 1 0 ≤ sum (λ i. pick (stands_at x (t.node i)) 1 0) t.size
      go (is_true e) =
          let o = stands x e in
          let s : stands_at x (t.node o.node) ≡ true = ap (stands_at x) o.variable_is ∙ eq-eqb x x refl in
          omega (
            arith,
            pick_yes {A = ℕ} (p x) 1 0 e,
            pick_yes {A = ℕ} (stands_at x (t.node o.node)) 1 0 s,
            term_le (λ i. pick (stands_at x (t.node i)) 1 0) t.size o.node o.within,
          )
      go (is_false e) = omega (arith, pick_no {A = ℕ} (p x) 1 0 e)

  pub passing_variables : (m : ℕ) → length (passing p m) ≤ sum (λ i. variables (t.node i)) t.size
  passing_variables m =
      let held : ℕ → ℕ → ℕ = λ x i. pick (stands_at x (t.node i)) 1 0 in
      let a : sum (λ x. pick (p x) 1 0) m ≤ sum (λ x. sum (held x) t.size) m = sum_mono _ _ m (λ x h. held_once x) in
      let b : sum (λ x. sum (held x) t.size) m ≡ sum (λ i. sum (λ x. held x i) m) t.size = sum_swap held m t.size in
      let c : sum (λ i. sum (λ x. held x i) m) t.size ≤ sum (λ i. variables (t.node i)) t.size =
      sum_mono _ _ t.size (λ i h. numbers_held (t.node i) m) in
      omega (arith, passing_length p m)

module _ (t : Table) (tree : Tree t) where
  -- every node but the last is named once, so there is one operand less than nodes
  pub operands_all : sum (λ j. length (operands (t.node j))) t.size + 1 ≡ t.size
  unfolding times_named
  operands_all =
      let n : ℕ = t.size in
      let some : 0 < n = tree.nonempty in
      let m : ℕ = n - 1 in
      let e : n ≡ suc m = omega arith in
      let a : sum (λ j. sum (λ i. times i (operands (t.node j))) n) n ≡ sum (λ j. length (operands (t.node j))) n =
      sum_cong _ _ n (λ j h. sum_times (operands (t.node j)) n (λ x k. let l : x < j = tree.lower j x h k in omega arith)) in
      let b : sum (λ j. sum (λ i. times i (operands (t.node j))) n) n ≡ sum (times_named t) n = sum_swap (λ j i. times i (operands (t.node j))) n n in
      let c : sum (times_named t) n ≡ sum (times_named t) m + times_named t m = sum_last (times_named t) n m e in
      let d : sum (times_named t) m ≡ m = sum_ones (times_named t) m (λ i h. tree.once i (omega arith)) in
      let z : times_named t m ≡ 0 = last_unnamed t tree.lower m (omega arith) in omega arith

  leaves_few : 2 * sum (λ i. variables (t.node i)) t.size ≤ suc t.size
  leaves_few =
      let n : ℕ = t.size in
      let vs : ℕ → ℕ = λ i. variables (t.node i) in
      let os : ℕ → ℕ = λ i. length (operands (t.node i)) in
      let a : sum (λ i. vs i + vs i + os i) n ≤ sum (λ i. 1 + 1) n = sum_mono _ _ n (λ i h. variables_operands (t.node i)) in
      let b : sum (λ i. vs i + vs i + os i) n ≡ sum (λ i. vs i + vs i) n + sum os n = sum_add (λ i. vs i + vs i) os n in
      let c : sum (λ i. vs i + vs i) n ≡ sum vs n + sum vs n = sum_add vs vs n in
      let d : sum (λ i. 1 + 1) n ≡ sum (λ i. 1) n + sum (λ i. 1) n = sum_add (λ i. 1) (λ i. 1) n in
      let o : sum (λ i. 1) n ≡ n = sum_ones (λ i. 1) n (λ i h. refl) in
      omega (arith, operands_all)

pub free_few : FreeFew
unfolding free_variables
free_few t tree =
    omega (arith, passing_variables t (free t) (free_occurs t tree) (suc (highest_variable t)), leaves_few t tree)
