-- No clause of a form's problem is empty, has a variable twice or is a tautology. And what holds of every clause of a problem, by its gates.
-- Assumes nothing.
use mathlib.Core.Path.{◌≡◌, refl, ap}
use mathlib.Core.Bool.{Bool, true, false, not, ◌&&◌, xor}
use mathlib.Core.List.{List, [], ◌∷◌}
use Prim.Native.Nat.{ℕ, zero, suc, ◌-◌, ◌<◌}
use native.Mathlib.Omega.{arith}
use lib.Dec.{eqb}
use lib.ListN.{length}
use borrow.Author.Tests.{ne_eqb, not-true}
use Rattle.lists.specs.Choice.{pick, and_left, and_right, and_both, and_off_left, or_neither, or_neither_left, or_neither_right}
use Rattle.lists.specs.Members.{mem, distinct}
use Rattle.lists.specs.Parts.{up_to}
use Rattle.formula.specs.Node.{Node, constant, variable, negation, operator, block, Table}
use Rattle.qdimacs.specs.Problem.{Literal, Clause, clause_variables, every}
use Rattle.qdimacs.proofs.Says.{every_append}
use Rattle.qdimacs_form.specs.Clauses.{has_gate, gate_variable, variable_of, has_value, no_operand, one_operand, two_operands, gate_clauses, same_literal, opposite, without, once, holds_opposite, is_tautology, written_clauses, node_clauses, matrix_clauses, matrix_problem, form_problem}
use Rattle.qdimacs_form.specs.Laws.{sound_clause, ProblemClauses}

-- what holds of the one or the other of two, as a test decides
pub pick_cases : {A : Type 0} (P : A → Type 0) (b : Bool) (c d : A) → (b ≡ true → P c) → (b ≡ false → P d) → P (pick b c d)
unfolding pick
pick_cases P true c d f g = f refl
pick_cases P false c d f g = g refl

-- What is left of a clause once a literal is gone from it.

-- two literals that are neither the same nor opposite have two variables
apart_literals : (e x : Bool) → (e && not x) ≡ false → (e && x) ≡ false → e ≡ false
apart_literals true true p q = q
apart_literals true false p q = p
apart_literals false x p q = refl

without_absent : (l : Literal) (c : Clause) (x : ℕ) → mem x (clause_variables c) ≡ false → mem x (clause_variables (without l c)) ≡ false
unfolding clause_variables without mem
without_absent l [] x n = n
without_absent l (m ∷ ms) x n =
    let rest = without_absent l ms x (or_neither_right (eqb x m.variable) _ n) in
    pick_cases (λ c. mem x (clause_variables c) ≡ false) (same_literal l m) (without l ms) (m ∷ without l ms) (λ _. rest)
    (λ _. or_neither (eqb x m.variable) _ (or_neither_left (eqb x m.variable) _ n) rest)

without_distinct : (l : Literal) (c : Clause) → distinct (clause_variables c) ≡ true → distinct (clause_variables (without l c)) ≡ true
unfolding clause_variables without distinct
without_distinct l [] d = d
without_distinct l (m ∷ ms) d =
    let none : mem m.variable (clause_variables ms) ≡ false = not-true _ (and_left _ (distinct (clause_variables ms)) d) in
    let rest = without_distinct l ms (and_right (not (mem m.variable (clause_variables ms))) _ d) in
    pick_cases (λ c. distinct (clause_variables c) ≡ true) (same_literal l m) (without l ms) (m ∷ without l ms) (λ _. rest)
    (λ _. and_both _ _ (ap not (without_absent l ms m.variable none)) rest)

without_opposite : (l m : Literal) (c : Clause) → holds_opposite l c ≡ false → holds_opposite l (without m c) ≡ false
unfolding without holds_opposite
without_opposite l m [] h = h
without_opposite l m (k ∷ ks) h =
    let rest = without_opposite l m ks (or_neither_right (opposite l k) _ h) in
    pick_cases (λ c. holds_opposite l c ≡ false) (same_literal m k) (without m ks) (k ∷ without m ks) (λ _. rest)
    (λ _. or_neither (opposite l k) _ (or_neither_left (opposite l k) _ h) rest)

-- its variable is gone too, where the opposite literal was not there
without_gone : (l : Literal) (c : Clause) → holds_opposite l c ≡ false → mem l.variable (clause_variables (without l c)) ≡ false
unfolding clause_variables without mem holds_opposite same_literal opposite
without_gone l [] h = refl
without_gone l (m ∷ ms) h =
    let e : Bool = eqb l.variable m.variable in
    let rest = without_gone l ms (or_neither_right (opposite l m) _ h) in
    pick_cases (λ c. mem l.variable (clause_variables c) ≡ false) (same_literal l m) (without l ms) (m ∷ without l ms) (λ _. rest)
    (λ s. or_neither e _ (apart_literals e (xor l.minus m.minus) s (or_neither_left (opposite l m) _ h)) rest)

-- A clause whose literals are written once.

once_opposite : (l : Literal) (c : Clause) → holds_opposite l c ≡ false → holds_opposite l (once c) ≡ false
unfolding once holds_opposite
once_opposite l [] h = h
once_opposite l (m ∷ ms) h =
    or_neither (opposite l m) _ (or_neither_left (opposite l m) _ h)
    (without_opposite l m (once ms) (once_opposite l ms (or_neither_right (opposite l m) _ h)))

-- has no variable twice, if it holds no variable and its opposite
once_distinct : (c : Clause) → is_tautology c ≡ false → distinct (clause_variables (once c)) ≡ true
unfolding once clause_variables distinct is_tautology
once_distinct [] h = refl
once_distinct (l ∷ ls) h =
    and_both _ _ (ap not (without_gone l (once ls) (once_opposite l ls (or_neither_left (holds_opposite l ls) _ h))))
    (without_distinct l (once ls) (once_distinct ls (or_neither_right (holds_opposite l ls) _ h)))

-- and a clause that has no variable twice is no tautology
absent_opposite : (l : Literal) (c : Clause) → mem l.variable (clause_variables c) ≡ false → holds_opposite l c ≡ false
unfolding clause_variables mem holds_opposite opposite
absent_opposite l [] n = refl
absent_opposite l (m ∷ ms) n =
    let e : Bool = eqb l.variable m.variable in
    or_neither _ _ (and_off_left e _ (or_neither_left e _ n)) (absent_opposite l ms (or_neither_right e _ n))

distinct_sound : (c : Clause) → distinct (clause_variables c) ≡ true → is_tautology c ≡ false
unfolding clause_variables distinct is_tautology
distinct_sound [] d = refl
distinct_sound (l ∷ ls) d =
    or_neither _ _ (absent_opposite l ls (not-true _ (and_left _ (distinct (clause_variables ls)) d)))
    (distinct_sound ls (and_right (not (mem l.variable (clause_variables ls))) _ d))

-- A test of a clause as it is written, unless it is dropped.
abbrev pub Written : (Clause → Bool) → Clause → Type 0
Written p c = is_tautology c ≡ false → p (once c) ≡ true

a_literal : (n : ℕ) → not (eqb (suc n) 0) ≡ true
a_literal n = ap not (ne_eqb (suc n) 0 (λ (e : suc n ≡ 0). omega arith))

sound_once : (l : Literal) (ls : Clause) → Written sound_clause (l ∷ ls)
unfolding sound_clause once
sound_once l ls h =
    let d : distinct (clause_variables (once (l ∷ ls))) ≡ true = once_distinct (l ∷ ls) h in
    and_both _ _ (and_both _ _ (a_literal (length (without l (once ls)))) d) (ap not (distinct_sound _ d))

one_sound : (l : Literal) → sound_clause (l ∷ []) ≡ true
unfolding once without is_tautology holds_opposite
one_sound l = sound_once l [] refl

-- What holds of every element of a list.

module _ {A : Type 0} (p : A → Bool) where
  pub every-up_to : (g : ℕ → List A) (n : ℕ) → ((i : ℕ) → i < n → every p (g i) ≡ true) → every p (up_to g n) ≡ true
  unfolding every up_to
  every-up_to g zero h = refl
  every-up_to g (suc n) h = every_append p (up_to g n) (g n) (every-up_to g n (λ i l. h i (omega arith))) (h n (omega arith))

-- every clause of a list, by a property
abbrev pub Each : (Clause → Type 0) → List Clause → Type 0
Each P [] = Unit {0}
Each P (c ∷ cs) = P c × Each P cs

module _ (p : Clause → Bool) where
  every_written : (cs : List Clause) → Each (Written p) cs → every p (written_clauses cs) ≡ true
  unfolding every written_clauses
  every_written [] h = refl
  every_written (c ∷ cs) h =
      pick_cases (λ ds. every p ds ≡ true) (is_tautology c) (written_clauses cs) (once c ∷ written_clauses cs)
      (λ _. every_written cs h.1) (λ e. and_both (p (once c)) _ (h.0 e) (every_written cs h.1))

  -- every clause of a problem, if it holds of the clauses of each gate as they are written, and of the root's own
  pub every_clause : (t : Table) (first : ℕ)
      → ((i : ℕ) → i < t.size → has_gate t i ≡ true → Each (Written p) (gate_clauses (variable_of t first) (gate_variable t first i) (t.node i)))
      → p (has_value (gate_variable t first (t.size - 1)) true ∷ []) ≡ true → every p (matrix_clauses t first) ≡ true
  unfolding matrix_clauses node_clauses every
  every_clause t first gates root =
      every_append p (up_to (node_clauses t first) t.size) _
      (every-up_to p (node_clauses t first) t.size (λ i h.
      pick_cases (λ cs. every p cs ≡ true) (has_gate t i) (written_clauses (gate_clauses (variable_of t first) (gate_variable t first i) (t.node i))) []
      (λ e. every_written _ (gates i h e)) (λ _. refl)))
      (and_both _ true root refl)

-- Each clause of a gate has the gate's literal.
gate_sound : (at : ℕ → ℕ) (g : ℕ) (nd : Node) → Each (Written sound_clause) (gate_clauses at g nd)
unfolding gate_clauses no_operand one_operand two_operands
gate_sound at g (constant c) = (sound_once _ _, tt)
gate_sound at g (variable x) = (sound_once _ _, (sound_once _ _, tt))
gate_sound at g (negation a) = (sound_once _ _, (sound_once _ _, tt))
gate_sound at g (operator f a b) = (sound_once _ _, (sound_once _ _, (sound_once _ _, (sound_once _ _, tt))))
gate_sound at g (block q xs a) = tt

pub problem_clauses : ProblemClauses
unfolding form_problem matrix_problem
problem_clauses nodes most ns ps xs form = every_clause sound_clause _ _ (λ i h e. gate_sound _ _ _) (one_sound _)
