-- What a QDIMACS text says (request S-7; QDIMACS 1.1): a header of two numbers, quantifier blocks and clauses; and its truth value.
-- Assumes nothing.
use Rattle.std.specs.Prelude.{Bool, true, false, ◌&&◌, ◌||◌, ℕ}
use Rattle.std.specs.Bool.{xor}
use mathlib.Core.List.{List, [], ◌∷◌, ◌++◌, map, flat_map}
use Rattle.formula.specs.Valuation.{Valuation}
use Rattle.formula.specs.Form.{Block, quantify}

-- A variable, or with a minus sign its opposite.
pub record Literal : Type 0 where
  pub minus : Bool
  pub variable : ℕ

abbrev pub Clause : Type 0
Clause = List Literal

pub record Problem : Type 0 where
  -- the header's two numbers: of variables, and of clauses
  pub variables : ℕ
  pub count : ℕ
  -- the quantifier blocks, the outermost first
  pub blocks : List Block
  pub clauses : List Clause

-- The variables of a clause, in its order.
unfoldable pub clause_variables : Clause → List ℕ
clause_variables c = map (λ (l : Literal). l.variable) c

-- Every number in the blocks and clauses of a problem.
unfoldable pub problem_numbers : Problem → List ℕ
problem_numbers p = flat_map (λ (b : Block). b.variables) p.blocks ++ flat_map clause_variables p.clauses

-- Every element of a list passes the test.
unfoldable pub every : {A : Type 0} → (A → Bool) → List A → Bool
every p [] = true
every p (x ∷ xs) = p x && every p xs

-- A literal without a minus sign has its variable's value, one with a minus sign the other value.
unfoldable pub literal_value : Literal → Valuation → Bool
literal_value l v = xor l.minus (v l.variable)

-- A clause is true if some literal of it is,
unfoldable pub clause_value : Clause → Valuation → Bool
clause_value [] v = false
clause_value (l ∷ ls) v = literal_value l v || clause_value ls v

-- clauses are if every one is,
unfoldable pub clauses_value : List Clause → Valuation → Bool
clauses_value [] v = true
clauses_value (c ∷ cs) v = clause_value c v && clauses_value cs v

-- and each block is read as a block of its kind over all that follows it, the last one over the clauses. A variable that no block binds has
-- the valuation's value; no problem that is written has one.
unfoldable pub problem_truth : Problem → Valuation → Bool
problem_truth p v = quantify p.blocks (clauses_value p.clauses) v
