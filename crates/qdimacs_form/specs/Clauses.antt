-- The clauses of a prenex form and the blocks over them (request S-7), of any size and with any names.
-- Assumes nothing.
use Rattle.std.specs.Prelude.{Bool, true, false, not, ◌&&◌, ◌||◌, List, [], ◌∷◌, ◌++◌, ℕ, suc, ◌+◌, ◌-◌, max, eqb, length}
use Rattle.std.specs.Bool.{xor}
use Rattle.lists.specs.Choice.{pick}
use Rattle.lists.specs.Members.{maximum}
use Rattle.lists.specs.Parts.{up_to, sum, numbers}
use Rattle.formula.specs.Node.{exists, Node, constant, variable, negation, operator, block, Table}
use Rattle.formula.specs.Words.{table_of}
use Rattle.formula.specs.Truth.{digit, operator_value}
use Rattle.formula.specs.Form.{Block, kind_of, blocks_of}
use Rattle.formula.specs.FreeVariables.{number_at, highest_variable, form_free_variables}
use Rattle.form_check.specs.Accepted.{prefix_names}
use Rattle.qdimacs.specs.Problem.{Literal, Clause, Problem}
use Rattle.qdimacs.specs.Text.{problem_text}

-- "Each operator, not node and constant gets a gate number ..
unfoldable pub is_gate_node : Node → Bool
is_gate_node (constant c) = true
is_gate_node (variable x) = false
is_gate_node (negation a) = true
is_gate_node (operator f a b) = true
is_gate_node (block q xs a) = false

-- .. and so does the root if it is a variable"
unfoldable pub has_gate : Table → ℕ → Bool
has_gate t i = is_gate_node (t.node i) || eqb (suc i) t.size

-- How many of the nodes below node i have a gate.
unfoldable pub gates_below : Table → ℕ → ℕ
gates_below t i = sum (λ j. digit (has_gate t j)) i

-- "from one above the highest in use", at a variable node or in a prefix block
unfoldable pub first_gate : Table → List Block → ℕ
first_gate t bs = suc (max (highest_variable t) (maximum (prefix_names bs)))

-- "in node order": the gate variable of node i (request S-7: gate number), the first one being this.
unfoldable pub gate_variable : Table → ℕ → ℕ → ℕ
gate_variable t first i = first + gates_below t i

-- What stands for node i: its gate variable, or, of a node without a gate, the variable at it.
unfoldable pub variable_of : Table → ℕ → ℕ → ℕ
variable_of t first i = pick (has_gate t i) (gate_variable t first i) (number_at (t.node i))

-- The literal of an operand that is false in a row in which the operand has this value.
abbrev pub false_at : ℕ → Bool → Literal
false_at x value = record { minus = value; variable = x }

-- The literal of a gate that says that it has this value.
abbrev pub has_value : ℕ → Bool → Literal
has_value g value = record { minus = not value; variable = g }

-- "A gate has one clause of all its literals for each row of its meaning", "rows from false to true with left leading, literals as left, right,
-- gate": of a gate g without operands, with one, and with two, the variables of which are x and y.
unfoldable pub no_operand : ℕ → Bool → List Clause
no_operand g c = (has_value g c ∷ []) ∷ []

unfoldable pub one_operand : ℕ → (Bool → Bool) → ℕ → List Clause
one_operand g f x =
    (false_at x false ∷ has_value g (f false) ∷ [])
    ∷ (false_at x true ∷ has_value g (f true) ∷ [])
    ∷ []

unfoldable pub two_operands : ℕ → (Bool → Bool → Bool) → ℕ → ℕ → List Clause
two_operands g f x y =
    (false_at x false ∷ false_at y false ∷ has_value g (f false false) ∷ [])
    ∷ (false_at x false ∷ false_at y true ∷ has_value g (f false true) ∷ [])
    ∷ (false_at x true ∷ false_at y false ∷ has_value g (f true false) ∷ [])
    ∷ (false_at x true ∷ false_at y true ∷ has_value g (f true true) ∷ [])
    ∷ []

-- The clauses of a node whose gate is g, given what stands for its operands. A variable's gate is "equal to it". A matrix has no blocks.
unfoldable pub gate_clauses : (ℕ → ℕ) → ℕ → Node → List Clause
gate_clauses at g (constant c) = no_operand g c
gate_clauses at g (variable x) = one_operand g (λ a. a) x
gate_clauses at g (negation a) = one_operand g not (at a)
gate_clauses at g (operator f a b) = two_operands g (operator_value f) (at a) (at b)
gate_clauses at g (block q xs a) = []

unfoldable pub same_literal : Literal → Literal → Bool
same_literal l m = eqb l.variable m.variable && not (xor l.minus m.minus)

unfoldable pub opposite : Literal → Literal → Bool
opposite l m = eqb l.variable m.variable && xor l.minus m.minus

-- "A literal written twice in a clause is written once": where it stands first.
unfoldable pub without : Literal → Clause → Clause
without l [] = []
without l (m ∷ ms) = pick (same_literal l m) (without l ms) (m ∷ without l ms)

unfoldable pub once : Clause → Clause
once [] = []
once (l ∷ ls) = l ∷ without l (once ls)

-- "a clause holding a variable and its opposite"
unfoldable pub holds_opposite : Literal → Clause → Bool
holds_opposite l [] = false
holds_opposite l (m ∷ ms) = opposite l m || holds_opposite l ms

unfoldable pub is_tautology : Clause → Bool
is_tautology [] = false
is_tautology (l ∷ ls) = holds_opposite l ls || is_tautology ls

-- "is dropped"
unfoldable pub written_clauses : List Clause → List Clause
written_clauses [] = []
written_clauses (c ∷ cs) = pick (is_tautology c) (written_clauses cs) (once c ∷ written_clauses cs)

-- The clauses of node i; none if it has no gate.
unfoldable pub node_clauses : Table → ℕ → ℕ → List Clause
node_clauses t first i =
    pick (has_gate t i)
    (written_clauses (gate_clauses (variable_of t first) (gate_variable t first i) (t.node i)))
    []

-- "Gates go in node order"; "last comes the root's own clause".
unfoldable pub matrix_clauses : Table → ℕ → List Clause
matrix_clauses t first =
    up_to (node_clauses t first) t.size
    ++ ((has_value (gate_variable t first (t.size - 1)) true ∷ []) ∷ [])

-- "Open names, ascending, go into an exists block in front, gates into an exists block at the end"
unfoldable pub exists_block : List ℕ → Block
exists_block xs = record { quantifier = exists; variables = xs }

unfoldable pub closed_blocks : List ℕ → List Block → List ℕ → List Block
closed_blocks open_names bs gates = exists_block open_names ∷ (bs ++ (exists_block gates ∷ []))

-- "empty blocks go ..
unfoldable pub filled_blocks : List Block → List Block
filled_blocks [] = []
filled_blocks (b ∷ bs) = pick (eqb (length b.variables) 0) (filled_blocks bs) (b ∷ filled_blocks bs)

-- .. and neighbours of one kind are joined"
unfoldable pub same_kind : Block → Block → Bool
same_kind b c = eqb (kind_of b.quantifier) (kind_of c.quantifier)

unfoldable pub joined_to : Block → List Block → List Block
joined_to b [] = b ∷ []
joined_to b (c ∷ cs) =
    pick (same_kind b c)
    (record { quantifier = b.quantifier; variables = b.variables ++ c.variables } ∷ cs)
    (b ∷ c ∷ cs)

unfoldable pub joined_blocks : List Block → List Block
joined_blocks [] = []
joined_blocks (b ∷ bs) = joined_to b (joined_blocks bs)

-- The problem of a matrix under prefix blocks, with these open names; "the header gives the highest gate number and the exact clause count":
-- the last gate is the root's.
unfoldable pub matrix_problem : Table → List Block → List ℕ → Problem
matrix_problem t bs open_names =
    let first = first_gate t bs in
    let clauses = matrix_clauses t first in
    record {
      variables = gate_variable t first (t.size - 1);
      count = length clauses;
      blocks = joined_blocks (filled_blocks (closed_blocks open_names bs (numbers first (gates_below t t.size))));
      clauses = clauses;
    }

-- The problem of a form, and its text.
unfoldable pub form_problem : List ℕ → List ℕ → List ℕ → Problem
form_problem ns ps xs = matrix_problem (table_of ns []) (blocks_of ps xs) (form_free_variables ns ps xs)

unfoldable pub clauses_text : List ℕ → List ℕ → List ℕ → List ℕ
clauses_text ns ps xs = problem_text (form_problem ns ps xs)
