-- Tables between the input and its prenex form. At cut c, variables are renamed, inner blocks of level at most c are read as
-- their definition variables, and every other block is real and binds its new names. Cut 0 is the renamed table; at the deepest
-- level the first nodes are those of the prenex form.
-- Assumes nothing.
use mathlib.Core.Bool.{Bool, true, not, ◌&&◌, ◌||◌, beq}
use mathlib.Core.List.{List, [], ◌∷◌}
use Prim.Native.Nat.{ℕ, zero, suc, ◌-◌}
use lib.Dec.{leb}
use Rattle.lists.specs.Choice.{pick}
use Rattle.lists.specs.Members.{all}
use Rattle.formula.specs.Node.{Quantifier, exists, for_all, Node, constant, variable, negation, operator, block, Table}
use Rattle.formula.specs.Valuation.{Valuation}
use Rattle.formula.specs.Truth.{value}
use Rattle.prenex_form.specs.Scope.{inner, level}
use Rattle.prenex_form.specs.Names.{new_name, new_names, copies, definition_variable}
use Rattle.prenex_form.specs.Levels.{blocks_at, quantifier_at, level_quantifier}
use Rattle.prenex_form.specs.Matrix.{kept, body_of}

unfoldable pub cut_node : Table → ℕ → ℕ → Node → Node
cut_node t c i (constant b) = constant b
cut_node t c i (variable x) = variable (new_name t i x)
cut_node t c i (negation a) = negation a
cut_node t c i (operator f a b) = operator f a b
cut_node t c i (block q xs a) =
    pick (inner t i && leb (level t i) c) (variable (definition_variable t i)) (block q (new_names t i) a)

unfoldable pub cut : Table → ℕ → Table
cut t c = record { size = t.size; node = λ i. cut_node t c i (t.node i) }

-- the value of node i at cut c
unfoldable pub value_at : Table → ℕ → ℕ → Valuation → Bool
value_at t c i v = value t.size (cut t c) i v

-- the values of xs and ys agree, one by one
unfoldable pub agree : Valuation → List ℕ → List ℕ → Bool
agree v [] ys = true
agree v (x ∷ xs) [] = true
agree v (x ∷ xs) (y ∷ ys) = beq (v x) (v y) && agree v xs ys

-- the guard of step 2: where the definition variable has the value that one witness does not force, names and copies agree
unfoldable pub guarded : Quantifier → Bool → Bool → Bool
guarded exists m e = m || e
guarded for_all m e = not m || e

-- the constraint of one block: its definition variable has its body's value f, and the guard holds
unfoldable pub holds : Quantifier → List ℕ → List ℕ → ℕ → (Valuation → Bool) → Valuation → Bool
holds q xs ys m f v = beq (v m) (f v) && guarded q (v m) (agree v xs ys)

unfoldable pub block_holds : Table → ℕ → Valuation → ℕ → Bool
block_holds t c v i =
    holds (quantifier_at (t.node i)) (new_names t i) (copies t i) (definition_variable t i) (value_at t c (body_of (t.node i))) v

-- the level constraint joined to the matrix m
unfoldable pub joined : Quantifier → Bool → Bool → Bool
joined for_all m c = m && c
joined exists m c = not c || m

-- the value of the matrix after j levels, its first nodes read at cut c
unfoldable pub matrix_at : Table → ℕ → ℕ → Valuation → Bool
matrix_at t c zero v = value_at t c (kept t - 1) v
matrix_at t c (suc j) v = joined (level_quantifier t j) (matrix_at t c j v) (all (block_holds t c v) (blocks_at t (suc j)))
