-- What stands for each written node of a matrix, as a pass upward finds it. A literal is held in one word; 0 is held for a node that is
-- not written.
-- Assumes nothing.
use Rattle.std.specs.Prelude.{true, false, List, ◌≡◌, ℕ, ◌+◌, ◌<◌, ◌≤◌, get_or, set}
use Rattle.lists.specs.Members.{mem}
use Rattle.formula.specs.Node.{Node, Table}
use Rattle.formula.specs.Truth.{digit}
use Rattle.qcir.specs.File.{Literal}
use Rattle.qcir_text.specs.Pieces.{literal_of, number_bound}
use Rattle.qcir_form.specs.File.{used_operands, has_gate, node_literal, written, gate_number, node_literal_of}

-- A word holds the literal.
pub record HoldsLiteral (word : ℕ) (l : Literal) : Type 0 where
  pub literal_is : literal_of word ≡ l
  pub real : 1 < word

-- The literals of the nodes below i, the first gate's number being this one; nodes from i up are marked if they are written.
pub record FilledTo (t : Table) (first i : ℕ) (literals : List ℕ) (gate : ℕ) : Type 0 where
  pub filled : (j : ℕ) → j < i → written t j ≡ true → HoldsLiteral (get_or literals j 0) (node_literal_of t first j)
  pub blank : (j : ℕ) → written t j ≡ false → get_or literals j 0 ≡ 0
  pub ahead : (j : ℕ) → i ≤ j → get_or literals j 0 ≡ digit (written t j)
  pub low : (j : ℕ) → get_or literals j 0 < number_bound
  pub gate_is : gate ≡ gate_number t first i

-- The literals of all nodes.
pub record Filled (t : Table) (first : ℕ) (literals : List ℕ) : Type 0 where
  pub filled : (j : ℕ) → written t j ≡ true → HoldsLiteral (get_or literals j 0) (node_literal_of t first j)
  pub blank : (j : ℕ) → written t j ≡ false → get_or literals j 0 ≡ 0
  pub low : (j : ℕ) → get_or literals j 0 < number_bound

-- A word for node i: it holds what stands for the node, given the words of its operands and the number of its gate.
pub record WordFor (nd : Node) (literals : List ℕ) (gate word : ℕ) : Type 0 where
  pub literal_is : literal_of word ≡ node_literal (λ a. literal_of (get_or literals a 0)) gate nd
  pub real : ((a : ℕ) → mem a (used_operands nd) ≡ true → 1 < get_or literals a 0) → 1 < word
  pub low : word < number_bound

-- What one node does: nothing if it is not marked, else its word is stored, and the next gate is numbered one higher if it has a gate.
pub data NodeFilled (nd : Node) (i gate : ℕ) (literals : List ℕ) : List ℕ → ℕ → Type 0 where
  skipped : get_or literals i 0 ≡ 0 → NodeFilled nd i gate literals literals gate
  stored : (get_or literals i 0 ≡ 0 → ⊥) → (word : ℕ) → WordFor nd literals gate word
      → NodeFilled nd i gate literals (set literals i word) (gate + digit (has_gate nd))
