-- What is owed of removing empty blocks: ns are the words of the table with words ws and list ls without its empty blocks. That
-- `without_empty_blocks` gives such words of every stored table that is accepted is the theorem `removal` (proofs/Theorem.antt).
-- Assumes nothing.
use Rattle.std.specs.Prelude.{List, ◌≡◌, ℕ, ◌-◌}
use Rattle.formula.specs.Words.{node_count, table_of}
use Rattle.formula.specs.Valuation.{Valuation}
use Rattle.formula.specs.Truth.{truth}
use Rattle.formula.specs.FreeVariables.{free_variables}
use Rattle.refusals.specs.Verdict.{accepted}
use Rattle.acceptance.specs.Verdict.{verdict}
use Rattle.empty_blocks.specs.Removal.{empty_below}

pub record RemovalOf (ws ls ns : List ℕ) : Type 0 where
  -- the checker accepts the nodes with the same list: "the list stays"
  pub accepts : verdict ns ls ≡ accepted
  -- "truth is kept"
  pub same_truth : (v : Valuation) → truth (table_of ns ls) v ≡ truth (table_of ws ls) v
  -- and so are the free variables
  pub same_free : free_variables (table_of ns ls) ≡ free_variables (table_of ws ls)
  -- "its size is the nodes left": all but the empty blocks
  pub nodes_left : node_count ns ≡ node_count ws - empty_below ws (node_count ws)
  -- a table without empty blocks stays as it is
  pub word_for_word : verdict ws ls ≡ accepted → ns ≡ ws
