-- `chains::chain_members` meets its contract. The loop's invariant: the pass has done the nodes from i up.
-- Assumes nothing.
use Rattle.formula.specs.Words.{table_of}
use Rattle.chains.specs.Chaining.{ChainedFrom}
use Rattle.chains.proofs.chain_members.Given as goal

abbrev pub invariant-loop-i : goal.invariant-loop-i
invariant-loop-i l = ChainedFrom (table_of l.words l.list) l.i l.firsts l.nexts l.starts l.passed
