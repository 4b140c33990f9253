-- `chains::chain_levels` meets its contract. The loop's invariant: the pass has done the nodes from i up.
-- Assumes nothing.
use Rattle.formula.specs.Words.{table_of}
use Rattle.chains.specs.Chaining.{LevelsFrom}
use Rattle.chains.proofs.chain_levels.Given as goal

abbrev pub invariant-loop-i : goal.invariant-loop-i
invariant-loop-i l = LevelsFrom (table_of l.words l.list) l.i l.firsts l.nexts
