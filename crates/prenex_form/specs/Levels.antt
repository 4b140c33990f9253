-- The levels of a table's inner blocks and their quantifiers (document 01, "Names", "The written form").
-- Assumes nothing.
use Rattle.std.specs.Prelude.{◌&&◌, List, [], ◌∷◌, ℕ, zero, suc, ◌-◌, eqb}
use Rattle.lists.specs.Choice.{pick}
use Rattle.lists.specs.Parts.{up_to, highest}
use Rattle.formula.specs.Node.{Quantifier, for_all, dual, Node, constant, variable, negation, operator, block, Table}
use Rattle.prenex_form.specs.Scope.{inner, level}

-- "each block of that level in node order"
unfoldable pub blocks_at : Table → ℕ → List ℕ
blocks_at t l = up_to (λ i. pick (inner t i && eqb (level t i) l) (i ∷ []) []) t.size

-- The deepest level: the levels are 1 up to this one; 0 if no block is inner.
unfoldable pub levels : Table → ℕ
levels t = highest (level t) t.size

-- The quantifier of a block; for-all at another node.
unfoldable pub quantifier_at : Node → Quantifier
quantifier_at (constant b) = for_all
quantifier_at (variable x) = for_all
quantifier_at (negation a) = for_all
quantifier_at (operator f a b) = for_all
quantifier_at (block q xs a) = q

-- "Level 1 takes the root's quantifier if the root is a block, else for-all; levels alternate from there": the quantifier
-- of level j + 1.
unfoldable pub level_quantifier : Table → ℕ → Quantifier
level_quantifier t zero = quantifier_at (t.node (t.size - 1))
level_quantifier t (suc j) = dual (level_quantifier t j)
