-- Tables that differ in the numbers of bound variables alone (request S-12, "The spelling of bound names"). Formulas that differ in
-- the names of bound variables alone are called alpha-equivalent.
-- Assumes nothing.
use Rattle.std.specs.Prelude.{Bool, true, false, ◌||◌, ◌≡◌, ℕ, ◌<◌, ltb, length, replicate}
use Rattle.lists.specs.Members.{place}
use Rattle.formula.specs.Node.{Node, constant, variable, negation, operator, block, Table, bound}
use Rattle.prenex_form.specs.Scope.{binder}
use Rattle.prenex_form.specs.Names.{highest_number}

-- A node without its variable numbers: 0 at a variable node, and 0 for each entry that a block binds. Where a block's range begins is
-- no part of a node.
unfoldable pub unnamed : Node → Node
unnamed (constant b) = constant b
unnamed (variable x) = variable 0
unnamed (negation a) = negation a
unnamed (operator f a b) = operator f a b
unnamed (block q xs a) = block q (replicate (length xs) 0) a

-- Some block above node i binds the number x there.
abbrev pub is_bound_at : Table → ℕ → ℕ → Bool
is_bound_at t i x = ltb (binder t i x) t.size

-- Where variable node i, with the number x in t and y in u, may differ: "in the bound numbers".
pub record SameVariable (t u : Table) (i x y : ℕ) : Type 0 where
  -- free in both, it has one number;
  pub same_number : (is_bound_at t i x || is_bound_at u i y) ≡ false → x ≡ y
  -- "let each variable node bound in either belong to the same block
  pub same_block : (is_bound_at t i x || is_bound_at u i y) ≡ true → binder t i x ≡ binder u i y
  -- and the same position in its stretch in both"
  pub same_position : (is_bound_at t i x || is_bound_at u i y) ≡ true
      → place x (bound (t.node (binder t i x))) ≡ place y (bound (u.node (binder u i y)))

-- "Let two accepted tables agree node for node except in the bound numbers and in where stretches begin": in kinds, constants, truth
-- tables, operands, counts and bodies, and at their variable nodes.
pub record AlphaEquivalent (t u : Table) : Type 0 where
  pub same_size : t.size ≡ u.size
  pub same_nodes : (i : ℕ) → i < t.size → unnamed (t.node i) ≡ unnamed (u.node i)
  pub same_variables : (i x y : ℕ) → i < t.size → t.node i ≡ variable x → u.node i ≡ variable y → SameVariable t u i x y

-- All that is asked of two accepted tables.
pub record Interchangeable (t u : Table) : Type 0 where
  pub alpha_equivalent : AlphaEquivalent t u
  -- "let their highest numbers be equal"
  pub same_highest : highest_number t ≡ highest_number u
