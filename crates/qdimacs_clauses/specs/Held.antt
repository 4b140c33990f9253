-- The lines of a matrix's clauses, by the variables whose words an array holds.
-- Assumes nothing.
use Rattle.std.specs.Prelude.{true, List, [], ◌∷◌, ◌++◌, ◌≡◌, ℕ, ◌-◌, ◌<◌, length, get_or}
use Rattle.lists.specs.Choice.{pick}
use Rattle.lists.specs.Members.{mem}
use Rattle.lists.specs.Parts.{up_to}
use Rattle.formula.specs.Node.{variable, Table, operands}
use Rattle.qdimacs.specs.Problem.{Clause}
use Rattle.qdimacs_form.specs.Clauses.{has_gate, has_value, gate_clauses, written_clauses}
use Rattle.qdimacs_rows.specs.Rows.{lines_text, IsWord}

-- The array holds the words of these variables, one for each node. A node's variable is above those of its operands, and a variable root's above
-- its number.
pub record WordsHeld (t : Table) (words : List ℕ) : Type 0 where
  pub variables : ℕ → ℕ
  pub wide : length words ≡ 40960
  pub words_are : (i : ℕ) → i < t.size → IsWord (get_or words i 0) (variables i)
  pub above : (i a : ℕ) → i < t.size → mem a (operands (t.node i)) ≡ true → variables a < variables i
  pub above_root : (x : ℕ) → t.node (t.size - 1) ≡ variable x → x < variables (t.size - 1)

-- The clauses of node i, if it has a gate, these being the variables.
unfoldable pub clauses_at : Table → (ℕ → ℕ) → ℕ → List Clause
clauses_at t variables i = pick (has_gate t i) (written_clauses (gate_clauses variables (variables i) (t.node i))) []

-- The lines of the nodes below node i.
unfoldable pub lines_below : Table → (ℕ → ℕ) → ℕ → List ℕ
lines_below t variables i = up_to (λ j. lines_text (clauses_at t variables j)) i

-- The lines of the root's gate, and last the root's own clause.
unfoldable pub root_text : Table → (ℕ → ℕ) → List ℕ
root_text t variables =
    let root = t.size - 1 in
    lines_text (clauses_at t variables root) ++ lines_text ((has_value (variables root) true ∷ []) ∷ [])
