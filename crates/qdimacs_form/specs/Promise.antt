-- What is owed of a QDIMACS text that is written for a form. That it holds of the text of every form that neither 14 nor 15 refuses is the
-- theorem `clauses_written` (proofs/Theorem.antt).
-- Assumes nothing.
use Rattle.std.specs.Prelude.{true, List, ◌≡◌, ℕ}
use Rattle.formula.specs.Form.{form_truth}
use Rattle.qdimacs.specs.Problem.{Problem, every}
use Rattle.qdimacs.specs.Spelling.{Says}
use Rattle.qdimacs_form.specs.Laws.{TrueIfSatisfiable, HeaderExact, sound_clause, bound_once, BlocksInOrder}

pub record ClausesOf (ns ps xs text : List ℕ) : Type 0 where
  -- the text says exactly one problem
  pub problem : Problem
  pub says : Says text problem
  pub only : (q : Problem) → Says text q → q ≡ problem
  -- "The file is true exactly if some setting of the open names makes the form true"
  pub truth : TrueIfSatisfiable problem (form_truth ns ps xs)
  -- "the header gives the highest gate number and the exact clause count"
  pub header : HeaderExact problem
  -- no clause is empty, has a variable twice or is a tautology
  pub sound : every sound_clause problem.clauses ≡ true
  -- every variable of a clause is bound, once
  pub bound : every (bound_once problem.blocks) problem.clauses ≡ true
  -- blocks alternate, none is empty, the last is exists
  pub blocks : BlocksInOrder problem.blocks
