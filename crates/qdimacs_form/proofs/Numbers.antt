-- The header of a form's problem is exact: its first number is the highest of all. And what passes a test among the variables of clauses.
-- Assumes nothing.
use mathlib.Core.Path.{◌≡◌, refl, ◌∙◌, ap}
use mathlib.Core.Bool.{Bool, true, false}
use mathlib.Core.List.{List, [], ◌∷◌, flat_map}
use Prim.Native.Nat.{ℕ, ◌+◌, ◌-◌, ◌<◌}
use native.Mathlib.Omega.{arith}
use lib.Dec.{leb}
use borrow.Author.Tests.{leb-true, le-leb}
use Rattle.lists.specs.Choice.{Is, is_true, is_false, look, and_left, and_right, and_both}
use Rattle.lists.specs.Members.{mem, all, maximum}
use Rattle.lists.specs.Parts.{numbers}
use Rattle.lists.proofs.Members.{mem_head, mem_tail, mem_left, mem_right, all_mem, all_intro, all_append, maximum_ge, maximum_le}
use Rattle.lists.proofs.Parts.{numbers_below}
use Rattle.formula.specs.Node.{Node, constant, variable, negation, operator, block, Table, operands, is_block}
use Rattle.formula.specs.Words.{table_of}
use Rattle.formula.specs.Tree.{Tree}
use Rattle.formula.specs.Form.{Block, blocks_of}
use Rattle.formula.specs.FreeVariables.{form_free_variables}
use Rattle.acceptance.specs.Limits.{matrix_within}
use Rattle.form_check.specs.Accepted.{AcceptedFormWithin, prefix_names}
use Rattle.acceptance.proofs.Matrix.{no_block}
use Rattle.qdimacs.specs.Problem.{Literal, Clause, clause_variables, problem_numbers, every}
use Rattle.qdimacs_form.specs.Clauses.{has_gate, gates_below, first_gate, gate_variable, variable_of, no_operand, one_operand, two_operands, gate_clauses, same_literal, without, once, matrix_clauses, matrix_problem, form_problem}
use Rattle.qdimacs_form.specs.Laws.{ProblemHeader}
use Rattle.qdimacs_form.proofs.Gates.{no_gate, root_gate, variable_gate, variable_name, gate_first, gate_last, gate_root, gate_number_lem, name_below, prefix_below, open_below}
use Rattle.qdimacs_form.proofs.Sound.{pick_cases, Written, Each, every_clause}
use Rattle.qdimacs_form.proofs.Blocks.{problem_names}

-- The variables of clauses.
module _ (p : ℕ → Bool) where
  -- All variables of a clause pass.
  abbrev pub all_pass : Clause → Bool
  all_pass c = all p (clause_variables c)

  -- those of a clause as it is written do, if those of the clause do
  without_pass : (l : Literal) (c : Clause) → all_pass c ≡ true → all_pass (without l c) ≡ true
  unfolding clause_variables without all
  without_pass l [] h = h
  without_pass l (m ∷ ms) h =
      let rest = without_pass l ms (and_right (p m.variable) _ h) in
      pick_cases (λ c. all_pass c ≡ true) (same_literal l m) (without l ms) (m ∷ without l ms) (λ _. rest)
      (λ _. and_both (p m.variable) _ (and_left (p m.variable) _ h) rest)

  once_pass : (c : Clause) → all_pass c ≡ true → all_pass (once c) ≡ true
  unfolding clause_variables once all
  once_pass [] h = h
  once_pass (l ∷ ls) h =
      and_both (p l.variable) _ (and_left (p l.variable) _ h) (without_pass l (once ls) (once_pass ls (and_right (p l.variable) _ h)))

  written_pass : (c : Clause) → all_pass c ≡ true → Written all_pass c
  written_pass c h _ = once_pass c h

  one_passes : (l : Literal) → p l.variable ≡ true → all_pass (l ∷ []) ≡ true
  unfolding clause_variables all
  one_passes l h = and_both (p l.variable) true h refl

  two_pass : (l m : Literal) → p l.variable ≡ true → p m.variable ≡ true → all_pass (l ∷ m ∷ []) ≡ true
  unfolding clause_variables all
  two_pass l m h k = and_both (p l.variable) _ h (one_passes m k)

  three_pass : (l m n : Literal) → p l.variable ≡ true → p m.variable ≡ true → p n.variable ≡ true → all_pass (l ∷ m ∷ n ∷ []) ≡ true
  unfolding clause_variables all
  three_pass l m n h k j = and_both (p l.variable) _ h (two_pass m n k j)

  -- The variables of a gate's clauses are the gate's, those of its operands and the one at it.
  gate_passes : (at : ℕ → ℕ) (g : ℕ) (nd : Node) → p g ≡ true → ((a : ℕ) → mem a (operands nd) ≡ true → p (at a) ≡ true)
      → ((x : ℕ) → nd ≡ variable x → p x ≡ true) → Each (Written all_pass) (gate_clauses at g nd)
  unfolding gate_clauses no_operand one_operand two_operands operands
  gate_passes at g (constant c) h o n = (written_pass _ (one_passes _ h), tt)
  gate_passes at g (variable x) h o n = let k = n x refl in (written_pass _ (two_pass _ _ k h), (written_pass _ (two_pass _ _ k h), tt))
  gate_passes at g (negation a) h o n =
      let k = o a (mem_head a []) in (written_pass _ (two_pass _ _ k h), (written_pass _ (two_pass _ _ k h), tt))
  gate_passes at g (operator f a b) h o n =
      let k = o a (mem_head a (b ∷ [])) in
      let j = o b (mem_tail b a (b ∷ []) (mem_head b [])) in (
        written_pass _ (three_pass _ _ _ k j h),
        (
          written_pass _ (three_pass _ _ _ k j h),
          (written_pass _ (three_pass _ _ _ k j h), (written_pass _ (three_pass _ _ _ k j h), tt)),
        ),
      )
  gate_passes at g (block q xs a) h o n = tt

  -- Over a matrix they are variables of gates and names at variable nodes.
  module _ (t : Table) (first : ℕ) (tree : Tree t) (plain : (i : ℕ) → i < t.size → is_block (t.node i) ≡ false)
      (gates : (i : ℕ) → i < t.size → has_gate t i ≡ true → p (gate_variable t first i) ≡ true)
      (names : (i x : ℕ) → i < t.size → t.node i ≡ variable x → p x ≡ true) where
    operand_passes : (a : ℕ) → a < t.size → p (variable_of t first a) ≡ true
    operand_passes a h = go (look (has_gate t a))
      where
        go : Is (has_gate t a) → p (variable_of t first a) ≡ true
        go (is_true g) = ap p (variable_gate t first a g) ∙ gates a h g
        go (is_false g) = ap p (variable_name t first a g) ∙ names a _ h (no_gate t a (plain a h) g)

    pub clauses_pass : every all_pass (matrix_clauses t first) ≡ true
    clauses_pass =
        let some : 0 < t.size = tree.nonempty in
        every_clause all_pass t first
        (λ i h g. gate_passes (variable_of t first) (gate_variable t first i) (t.node i) (gates i h g)
        (λ a m. let l : a < i = tree.lower i a h m in operand_passes a (omega arith)) (λ x. names i x h))
        (one_passes _ (gates (t.size - 1) (omega arith) (root_gate t some)))

-- What every clause's variables pass, every number in clauses passes.
all_clauses : (p : ℕ → Bool) (cs : List Clause) → every (all_pass p) cs ≡ true → all p (flat_map clause_variables cs) ≡ true
unfolding every flat_map all
all_clauses p [] h = refl
all_clauses p (c ∷ cs) h = all_append p (clause_variables c) _ (and_left (all_pass p c) _ h) (all_clauses p cs (and_right (all_pass p c) _ h))

-- The problem of a form.
module _ (nodes most : ℕ) (ns ps xs : List ℕ) (form : AcceptedFormWithin (matrix_within nodes most) ns ps xs) where
  abbrev table : Table
  table = table_of ns []

  abbrev blocks : List Block
  blocks = blocks_of ps xs

  abbrev first : ℕ
  first = first_gate table blocks

  abbrev gates : List ℕ
  gates = numbers first (gates_below table table.size)

  some_node_lem : 0 < table.size
  some_node_lem = form.matrix.proper.tree.nonempty

  module _ (p : ℕ → Bool) where
    pub form_clauses : ((i : ℕ) → i < table.size → has_gate table i ≡ true → p (gate_variable table first i) ≡ true)
        → ((i x : ℕ) → i < table.size → table.node i ≡ variable x → p x ≡ true) → every (all_pass p) (form_problem ns ps xs).clauses ≡ true
    unfolding form_problem matrix_problem table_of
    form_clauses = clauses_pass p table first form.matrix.proper.tree (no_block nodes most ns form.matrix)

    pub form_blocks : ((x : ℕ) → mem x (form_free_variables ns ps xs) ≡ true → p x ≡ true) → ((x : ℕ) → mem x (prefix_names blocks) ≡ true → p x ≡ true)
        → ((x : ℕ) → mem x gates ≡ true → p x ≡ true) → all p (prefix_names (form_problem ns ps xs).blocks) ≡ true
    form_blocks o b g =
        ap (all p) (problem_names ns ps xs)
        ∙ all_append p (form_free_variables ns ps xs) _ (all_intro p _ o)
        (all_append p (prefix_names blocks) gates (all_intro p _ b) (all_intro p _ g))

  -- the root's gate variable, the last of all
  abbrev last : ℕ
  last = gate_variable table first (table.size - 1)

  below_first : (x : ℕ) → x < first → leb x last ≡ true
  below_first x h = le-leb x last (omega (arith, gate_first table first (table.size - 1)))

  below_end : (x : ℕ) → x < first + gates_below table table.size → leb x last ≡ true
  below_end x h = le-leb x last (omega (arith, gate_root table first some_node_lem))

  all_below : all (λ x. leb x last) (problem_numbers (form_problem ns ps xs)) ≡ true
  unfolding problem_numbers prefix_names
  all_below =
      all_append (λ x. leb x last) (prefix_names (form_problem ns ps xs).blocks) _
      (form_blocks (λ x. leb x last) (λ x m. below_first x (open_below ns ps xs x m)) (λ x m. below_first x (prefix_below table blocks x m))
      (λ x m. below_end x (numbers_below first (gates_below table table.size) x m)))
      (all_clauses (λ x. leb x last) _
      (form_clauses (λ x. leb x last) (λ i h g. below_end (gate_variable table first i) (gate_last table first i h g))
      (λ i x h e. below_first x (name_below table blocks i x h e))))

  last_there : mem last (problem_numbers (form_problem ns ps xs)) ≡ true
  unfolding problem_numbers prefix_names
  last_there =
      let some : 0 < table.size = some_node_lem in
      let gate : mem last gates ≡ true = gate_number_lem table first (table.size - 1) (omega arith) (root_gate table some) in
      mem_left last (prefix_names (form_problem ns ps xs).blocks) _
      (ap (mem last) (problem_names ns ps xs) ∙ mem_right last (form_free_variables ns ps xs) _ (mem_right last (prefix_names blocks) gates gate))

  last_highest : last ≡ maximum (problem_numbers (form_problem ns ps xs))
  last_highest =
      let numbers = problem_numbers (form_problem ns ps xs) in
      omega (
        arith,
        maximum_ge numbers last last_there,
        maximum_le numbers last (λ x m. leb-true x last (all_mem (λ y. leb y last) numbers x all_below m)),
      )

pub problem_header : ProblemHeader
unfolding form_problem matrix_problem
problem_header nodes most ns ps xs form = record { highest = last_highest nodes most ns ps xs form; counted = refl }
