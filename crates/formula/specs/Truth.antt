-- The truth value of a table (document 01, "Truth and size"), and the variables that are free in it.
-- Assumes nothing.
use Rattle.std.specs.Prelude.{Bool, true, false, not, ◌&&◌, ◌||◌, ℕ, zero, suc, ◌+◌, ◌*◌, ◌/◌, ◌%◌, ◌^◌, ◌-◌, eqb}
use Rattle.lists.specs.Members.{mem}
use Rattle.formula.specs.Node.{Node, constant, variable, negation, operator, block, Table}
use Rattle.formula.specs.Valuation.{Valuation, quant}

-- "An operator's value is bit (2 × left + right) of its truth table."
unfoldable pub bit : ℕ → ℕ → Bool
bit f k = eqb (f / 2 ^ k % 2) 1

unfoldable pub digit : Bool → ℕ
digit true = 1
digit false = 0

unfoldable pub operator_value : ℕ → Bool → Bool → Bool
operator_value f left right = bit f (2 * digit left + digit right)

-- "Under a setting a constant has its value, a variable node what its number is given, a not node the opposite of its
-- operand, an operator node its bit for left and right", and a block its body's value under its quantifier: a node's
-- value, given those of the nodes that it names.
unfoldable pub node_value : (ℕ → Valuation → Bool) → Node → Valuation → Bool
node_value at (constant b) v = b
node_value at (variable x) v = v x
node_value at (negation a) v = not (at a v)
node_value at (operator f a b) v = operator_value f (at a v) (at b v)
node_value at (block q xs a) v = quant q xs (at a) v

-- The value of node i of a table. The first argument bounds how far down the operands go; where operands are lower than
-- their users it says nothing, and this is the only value that document 01's sentences allow (specs/Laws.antt).
unfoldable pub value : ℕ → Table → ℕ → Valuation → Bool
value zero t i v = false
value (suc f) t i v = node_value (value f t) (t.node i) v

-- "The table's truth value is its root's."
unfoldable pub truth : Table → Valuation → Bool
truth t v = value t.size t (t.size - 1) v

-- Whether the number x is free in a node: x stands at it or at a variable node below it, with no block from there up to it that covers x.
unfoldable pub node_free : (ℕ → Bool) → ℕ → Node → Bool
node_free at x (constant b) = false
node_free at x (variable y) = eqb x y
node_free at x (negation a) = at a
node_free at x (operator f a b) = at a || at b
node_free at x (block q xs a) = not (mem x xs) && at a

unfoldable pub free_at : ℕ → Table → ℕ → ℕ → Bool
free_at zero t x i = false
free_at (suc f) t x i = node_free (free_at f t x) x (t.node i)

-- "Nowhere free in the table" is `free t x ≡ false`.
unfoldable pub free : Table → ℕ → Bool
free t x = free_at t.size t x (t.size - 1)
