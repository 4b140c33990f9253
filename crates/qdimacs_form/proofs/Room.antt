-- How many bytes the QDIMACS text of a form takes at most.
-- Assumes nothing.
use mathlib.Core.Path.{◌≡◌}
use mathlib.Core.Bool.{Bool, true, false, not}
use mathlib.Core.List.{List, [], ◌∷◌}
use Prim.Native.Nat.{ℕ, zero, suc, ◌+◌, ◌*◌, ◌-◌, ◌≤◌, ◌<◌}
use native.Mathlib.Omega.{arith}
use lib.Dec.{eqb}
use lib.ListN.{length, length-append}
use borrow.Author.Tests.{eqb-true, eq-eqb}
use Rattle.lists.specs.Choice.{pick, pick_yes, pick_no, Is, is_true, is_false, look, and_left}
use Rattle.lists.specs.Parts.{up_to, sum, numbers}
use Rattle.lists.proofs.Members.{maximum_le}
use Rattle.lists.proofs.Parts.{length_numbers, numbers_below, length-up_to, sum_mono, highest_le, pick_within}
use Rattle.lists.proofs.Sums.{sum_at_most}
use Rattle.formula.specs.Node.{Node, constant, variable, negation, operator, block, Table, operands}
use Rattle.formula.specs.Tree.{Tree}
use Rattle.formula.specs.Words.{node_count, table_of}
use Rattle.formula.specs.Truth.{digit, free}
use Rattle.formula.specs.Form.{Block, blocks_of, binds, form_free}
use Rattle.formula.specs.FreeVariables.{number_at, highest_variable, form_free_variables}
use Rattle.formula.proofs.FreeVariables.{variables, free_occurs, passing_variables, operands_all}
use Rattle.formula.proofs.Meaning.{blocks_count}
use Rattle.form_check.specs.Accepted.{prefix_names, AcceptedForm}
use Rattle.form_check.proofs.Flags.{name_below}
use Rattle.form_check.proofs.Entries.{prefix_name_below, names_few, names_below}
use Rattle.acceptance.proofs.Matrix.{MatrixNode, matrix_node}
use Rattle.texts.specs.Bounds.{number_bound}
use Rattle.texts.proofs.Lengths.{at_most_five, at_most_six}
use Rattle.qdimacs_form.specs.Clauses.{has_gate, gates_below, first_gate, gate_variable, variable_of, has_value, gate_clauses, written_clauses, node_clauses, matrix_clauses, filled_blocks, matrix_problem, form_problem, clauses_text}
use Rattle.qdimacs_form.specs.Laws.{TextRoom}
use Rattle.qdimacs_form.proofs.Gates.{open_below}
use Rattle.qdimacs_form.proofs.Weights.{clauses_bytes, numbers_bytes, blocks_bytes, text_weighs, pick_measures, written_fewer, clauses_append, clauses_up_to, root_weighs, node_weighs, clauses_four, numbers_weigh, filled_weigh, closed_weigh}

-- Sums of bounds: of the bytes that nodes take, of at most four for each, of at most one for each.
sum_weighs : (bytes gates names inputs more : ℕ → ℕ) (n : ℕ)
    → ((i : ℕ) → i < n → bytes i + 7 * gates i + 6 * names i ≤ 17 + 47 * inputs i + more i)
    → sum bytes n + 7 * sum gates n + 6 * sum names n ≤ 17 * n + 47 * sum inputs n + sum more n
unfolding sum
sum_weighs bytes gates names inputs more zero h = omega arith
sum_weighs bytes gates names inputs more (suc n) h =
    omega (arith, sum_weighs bytes gates names inputs more n (λ i l. h i (omega arith)), h n (omega arith))

sum_four : (f : ℕ → ℕ) (n : ℕ) → ((i : ℕ) → f i ≤ 4) → sum f n ≤ 4 * n
unfolding sum
sum_four f zero h = omega arith
sum_four f (suc n) h = omega (arith, sum_four f n h, h n)

digit_le : (b : Bool) → digit b ≤ 1
unfolding digit
digit_le true = omega arith
digit_le false = omega arith

pub sum_digits : (p : ℕ → Bool) (n : ℕ) → sum (λ i. digit (p i)) n ≤ n
unfolding sum
sum_digits p zero = omega arith
sum_digits p (suc n) = omega (arith, sum_digits p n, digit_le (p n))

-- What the last node takes more, its index being written in another way.
root_more : (n i : ℕ) → pick (eqb (suc i) n) 32 0 ≤ pick (eqb i (n - 1)) 32 0
root_more n i = go (look (eqb (suc i) n))
  where
    go : Is (eqb (suc i) n) → pick (eqb (suc i) n) 32 0 ≤ pick (eqb i (n - 1)) 32 0
    go (is_true e) =
        let last : suc i ≡ n = eqb-true (suc i) n e in
        omega (
          arith,
          pick_yes {A = ℕ} (eqb (suc i) n) 32 0 e,
          pick_yes {A = ℕ} (eqb i (n - 1)) 32 0 (eq-eqb i (n - 1) (omega arith)),
        )
    go (is_false e) = omega (arith, pick_no {A = ℕ} (eqb (suc i) n) 32 0 e)

-- No node has more than four clauses, and the root's own comes last.
clauses_few : (t : Table) (first : ℕ) → length (matrix_clauses t first) ≤ 4 * t.size + 1
unfolding matrix_clauses node_clauses
clauses_few t first =
    let four : (i : ℕ) → length (node_clauses t first i) ≤ 4 =
    λ i.
    let gates = gate_clauses (variable_of t first) (gate_variable t first i) (t.node i) in
    pick_measures length (has_gate t i) (written_clauses gates) [] 4
    (omega (arith, written_fewer gates, clauses_four (variable_of t first) (gate_variable t first i) (t.node i)))
    (omega arith) in
    omega (
      arith,
      length-append (up_to (node_clauses t first) t.size) ((has_value (gate_variable t first (t.size - 1)) true ∷ []) ∷ []),
      length-up_to (node_clauses t first) t.size,
      sum_four (λ i. length (node_clauses t first i)) t.size four,
    )

-- The nodes of a tree whose numbers and gates are below a million.
module _ (t : Table) (first : ℕ) (low : (i : ℕ) → i < t.size → number_at (t.node i) < number_bound)
    (gates_low : first + t.size ≤ number_bound) where
  gate_low : (i : ℕ) → i < t.size → gate_variable t first i < number_bound
  unfolding gate_variable gates_below
  gate_low i h = omega (arith, sum_digits (has_gate t) i)

  variable_low : (i : ℕ) → i < t.size → variable_of t first i < number_bound
  unfolding variable_of
  variable_low i h =
      let own : number_at (t.node i) < number_bound = low i h in
      omega (arith, pick_within (has_gate t i) (gate_variable t first i) (number_at (t.node i)) 999999 (omega (arith, gate_low i h)) (omega arith))

  -- each node but the last is named once, so there is one operand less than nodes
  nodes_weigh : Tree t
      → clauses_bytes (up_to (node_clauses t first) t.size) + 7 * gates_below t t.size + 6 * sum (λ i. variables (t.node i)) t.size
      ≤ 64 * t.size
  unfolding node_clauses has_gate gates_below
  nodes_weigh tree =
      let n : ℕ = t.size in
      let root : ℕ → ℕ = λ i. pick (eqb (suc i) n) 32 0 in
      let one : (i : ℕ) → i < n → clauses_bytes (node_clauses t first i) + 7 * digit (has_gate t i) + 6 * variables (t.node i)
      ≤ 17 + 47 * length (operands (t.node i)) + root i =
      λ i h.
      node_weighs (variable_of t first) (gate_variable t first i) (gate_low i h) (eqb (suc i) n) (t.node i) (low i h)
      (λ a m. variable_low a (let l : a < i = tree.lower i a h m in omega arith)) in
      omega (
        arith,
        clauses_up_to (node_clauses t first) n,
        sum_weighs _ _ _ _ root n one,
        operands_all t tree,
        sum_mono root (λ i. pick (eqb i (n - 1)) 32 0) n (λ i h. root_more n i),
        sum_at_most (n - 1) 32 n,
      )

-- The number at a node of a matrix.
number_of : (nd : Node) → MatrixNode 77823 nd → number_at nd ≤ 77823
unfolding number_at
number_of (constant c) w = omega arith
number_of (variable x) w = omega (arith, name_below x w)
number_of (negation a) w = omega arith
number_of (operator f a b) w = omega arith
number_of (block q xs a) w = absurd w

-- The parts of the text of an accepted form.
module _ (ns ps xs : List ℕ) (a : AcceptedForm ns ps xs) where
  t : Table
  t = table_of ns []

  bs : List Block
  bs = blocks_of ps xs

  first : ℕ
  first = first_gate t bs

  -- The numbers at nodes are below 77,824, and so the first gate is at most that.
  number_low : (i : ℕ) → i < t.size → number_at (t.node i) ≤ 77823
  unfolding t table_of
  number_low i h = number_of (t.node i) (matrix_node 40960 77823 ns a.matrix i h)

  highest_low : highest_variable t ≤ 77823
  unfolding highest_variable
  highest_low = highest_le (λ i. number_at (t.node i)) t.size 77823 number_low

  first_low : first ≤ 77824
  unfolding first first_gate bs
  first_low =
      omega (arith, highest_low, maximum_le (prefix_names bs) 77823 (λ x m. let l : x < 77824 = prefix_name_below ns ps xs a x m in omega arith))

  -- The open names: they stand at variable nodes, and have at most five digits.
  open_few : length (form_free_variables ns ps xs) ≤ sum (λ i. variables (t.node i)) t.size
  unfolding form_free_variables form_free t
  open_few =
      passing_variables t (form_free ns ps xs)
      (λ x e. free_occurs t a.matrix.proper.tree x (and_left (free t x) (not (binds (blocks_of ps xs) x)) e))
      (suc (highest_variable t))

  open_weigh : numbers_bytes (form_free_variables ns ps xs) ≤ 6 * length (form_free_variables ns ps xs)
  unfolding t bs first
  open_weigh = numbers_weigh 5 (form_free_variables ns ps xs) (λ x m. at_most_five x (omega (arith, open_below ns ps xs x m, first_low)))

  -- The names of the prefix, and the gates' variables.
  prefix_weighs : numbers_bytes (prefix_names bs) ≤ 6 * length (prefix_names bs)
  unfolding bs
  prefix_weighs = numbers_weigh 5 (prefix_names bs) (λ x m. at_most_five x (omega (arith, prefix_name_below ns ps xs a x m)))

  gates_weigh : numbers_bytes (numbers first (gates_below t t.size)) ≤ 7 * gates_below t t.size
  unfolding gates_below t table_of
  gates_weigh =
      let few : gates_below t t.size ≤ t.size = sum_digits (has_gate t) t.size in
      omega (
        arith,
        length_numbers first (gates_below t t.size),
        numbers_weigh 6 (numbers first (gates_below t t.size))
            (λ x m. at_most_six x (omega (arith, numbers_below first (gates_below t t.size) x m, first_low, a.matrix.nodes_limit))),
      )

  -- The text by its parts: its header, the open names, the gates, the clauses and the prefix.
  parts : length (clauses_text ns ps xs) ≤ 64 * (node_count ns + 1) + blocks_bytes (filled_blocks bs)
  unfolding clauses_text form_problem matrix_problem matrix_clauses t bs first table_of
  parts =
      let p = form_problem ns ps xs in
      let n : ℕ = node_count ns in
      let most : n ≤ 40960 = a.matrix.nodes_limit in
      let some : 0 < n = a.matrix.proper.tree.nonempty in
      let low : (i : ℕ) → i < n → number_at (t.node i) < number_bound = λ i h. omega (arith, number_low i h) in
      let gates : first + n ≤ number_bound = omega (arith, first_low) in
      let root : gate_variable t first (n - 1) < number_bound = gate_low t first low gates (n - 1) (omega arith) in
      omega (
        arith,
        text_weighs p root (omega (arith, clauses_few t first)),
        clauses_append (up_to (node_clauses t first) n) ((has_value (gate_variable t first (n - 1)) true ∷ []) ∷ []),
        root_weighs (gate_variable t first (n - 1)) root,
        closed_weigh (form_free_variables ns ps xs) bs (numbers first (gates_below t n)),
        open_weigh,
        open_few,
        gates_weigh,
        nodes_weigh t first low gates a.matrix.proper.tree,
      )

-- With a prefix of so many blocks, and names that stand in a list of so many entries.
pub text_room : TextRoom
unfolding bs
text_room ns ps xs a =
    omega (arith, parts ns ps xs a, (filled_weigh (blocks_of ps xs)).0, prefix_weighs ns ps xs a, blocks_count ps xs, names_few ns ps xs a)

-- Whatever the prefix: what the code counts by does not wrap.
pub text_short : (ns ps xs : List ℕ) → AcceptedForm ns ps xs → length (clauses_text ns ps xs) ≤ 8388608
unfolding bs
text_short ns ps xs a =
    omega (arith, parts ns ps xs a, (filled_weigh (blocks_of ps xs)).1, prefix_weighs ns ps xs a, names_below ns ps xs a, a.matrix.nodes_limit)
