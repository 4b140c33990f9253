-- What a QCIR file says (request S-1), each name with the position of its first digit.
-- Assumes nothing.
use Rattle.std.specs.Prelude.{Bool, List, [], ◌∷◌, ◌++◌, map, ℕ}
use Rattle.formula.specs.Node.{Quantifier}

-- A name where it stands.
pub record Name : Type 0 where
  pub number : ℕ
  pub position : ℕ

-- An input of a gate, or the output: a minus sign may stand before the name.
pub record Literal : Type 0 where
  pub minus : Bool
  pub name : Name

pub data Junction : Type 0 where
  conjunction disjunction : Junction

pub data Gate : Type 0 where
  -- g = and(..), g = or(..): with any number of inputs
  junction_gate : Junction → Name → List Literal → Gate
  -- g = xor(..): with two
  xor_gate : Name → Literal → Literal → Gate
  -- g = exists(..; ..), g = forall(..; ..): with at least one variable, and one input
  quantifier_gate : Quantifier → Name → Name → List Name → Literal → Gate

-- A prefix line, exists(..) or forall(..): its list has at least one name.
pub record Line : Type 0 where
  pub quantifier : Quantifier
  pub first : Name
  pub others : List Name

pub record File : Type 0 where
  -- the names of the free line; none if there is no such line
  pub free : List Name
  pub prefix : List Line
  pub output : Literal
  pub gates : List Gate

-- The name that a gate line defines.
unfoldable pub gate_name : Gate → Name
gate_name (junction_gate j g ls) = g
gate_name (xor_gate g l r) = g
gate_name (quantifier_gate q g x xs l) = g

-- The variables that a gate quantifies; none if it is not quantified.
unfoldable pub gate_variables : Gate → List Name
gate_variables (junction_gate j g ls) = []
gate_variables (xor_gate g l r) = []
gate_variables (quantifier_gate q g x xs l) = x ∷ xs

unfoldable pub gate_inputs : Gate → List Literal
gate_inputs (junction_gate j g ls) = ls
gate_inputs (xor_gate g l r) = l ∷ r ∷ []
gate_inputs (quantifier_gate q g x xs l) = l ∷ []

unfoldable pub line_variables : Line → List Name
line_variables l = l.first ∷ l.others

unfoldable pub prefix_variables : List Line → List Name
prefix_variables [] = []
prefix_variables (l ∷ ls) = line_variables l ++ prefix_variables ls

-- The numbers of names.
unfoldable pub numbers_of : List Name → List ℕ
numbers_of xs = map (λ x. x.number) xs

-- The names of inputs.
unfoldable pub names_of : List Literal → List Name
names_of ls = map (λ l. l.name) ls
