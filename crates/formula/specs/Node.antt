-- The nodes of a formula table (document 01, "The formula table").
-- Assumes nothing.
use Rattle.std.specs.Prelude.{Bool, true, false, List, [], ◌∷◌, ℕ}

pub data Quantifier : Type 0 where
  exists for_all : Quantifier

unfoldable pub dual : Quantifier → Quantifier
dual exists = for_all
dual for_all = exists

-- A node as document 01's table of kinds gives it. A block holds the variables of its range.
pub data Node : Type 0 where
  -- kind 1, constant: "value 0 or 1"
  constant : Bool → Node
  -- kind 2, variable: "its number"
  variable : ℕ → Node
  -- kind 3, not: "operand"
  negation : ℕ → Node
  -- kind 4, operator: "truth table 0 to 15, left, right"
  operator : ℕ → ℕ → ℕ → Node
  -- kinds 5 and 6, exists block and for-all block: "first list entry, count, body"
  block : Quantifier → List ℕ → ℕ → Node

-- A table as nodes: how many there are, and node i. "Nodes count from 0. The last node is the root." What stands at
-- `size` and above is never looked at.
pub record Table : Type 0 where
  pub size : ℕ
  pub node : ℕ → Node

-- The nodes that a node names: "operands and bodies".
unfoldable pub operands : Node → List ℕ
operands (constant b) = []
operands (variable x) = []
operands (negation a) = a ∷ []
operands (operator t a b) = a ∷ b ∷ []
operands (block q xs a) = a ∷ []

unfoldable pub is_block : Node → Bool
is_block (constant b) = false
is_block (variable x) = false
is_block (negation a) = false
is_block (operator t a b) = false
is_block (block q xs a) = true

-- "A block binds the `count` entries from `first` on": the variables that a block binds; none at another node.
unfoldable pub bound : Node → List ℕ
bound (constant b) = []
bound (variable x) = []
bound (negation a) = []
bound (operator t a b) = []
bound (block q xs a) = xs
