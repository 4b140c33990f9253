-- The free variables of a table and of a prenex form, as lists (document 01: open names; request S-4).
-- Assumes nothing.
use Rattle.std.specs.Prelude.{Bool, false, List, [], ℕ, suc, eqb}
use Rattle.lists.specs.Search.{some_below}
use Rattle.lists.specs.Parts.{highest, passing}
use Rattle.formula.specs.Node.{Node, constant, variable, negation, operator, block, Table}
use Rattle.formula.specs.Words.{table_of}
use Rattle.formula.specs.Truth.{free}
use Rattle.formula.specs.Form.{form_free}

-- The number x stands at this node, a variable node.
unfoldable pub stands_at : ℕ → Node → Bool
stands_at x (constant b) = false
stands_at x (variable y) = eqb x y
stands_at x (negation a) = false
stands_at x (operator f a b) = false
stands_at x (block q xs a) = false

-- Some node of the table passes the test.
unfoldable pub some_node : Table → (Node → Bool) → Bool
some_node t p = some_below (λ i. p (t.node i)) t.size

-- The number at a variable node, 0 at another.
unfoldable pub number_at : Node → ℕ
number_at (constant b) = 0
number_at (variable x) = x
number_at (negation a) = 0
number_at (operator f a b) = 0
number_at (block q xs a) = 0

-- The highest number at a variable node, 0 if there is none. No higher number is free.
unfoldable pub highest_variable : Table → ℕ
highest_variable t = highest (λ i. number_at (t.node i)) t.size

-- "An open name is now a number with a variable node that no block above it covers", listed "ascending and once each". That this is
-- the list of the free numbers, and the only one, is a law (specs/Laws.antt).
unfoldable pub free_variables : Table → List ℕ
free_variables t = passing (free t) (suc (highest_variable t))

-- The same of a prenex form, of any size and with any names: "the open names (ascending)" (requests S-5, S-7).
unfoldable pub form_free_variables : List ℕ → List ℕ → List ℕ → List ℕ
form_free_variables ns ps xs = passing (form_free ns ps xs) (suc (highest_variable (table_of ns [])))
