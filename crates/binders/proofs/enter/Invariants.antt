-- `binders::enter` meets its contract. The loop's invariant: the scope's entries from the block's kth on are chained.
-- Assumes nothing.
use Prim.Native.Nat.{◌+◌}
use Rattle.formula.specs.Words.{table_of}
use Rattle.binders.specs.Scope.{Open}
use Rattle.binders.proofs.Blocks.{BlockAt}
use Rattle.binders.proofs.enter.Given as goal

abbrev pub invariant-loop-k : goal.invariant-loop-k
invariant-loop-k l = BlockAt l.scopes.words.now l.scopes.list.now l.i l.start l.first l.count × Open (table_of l.scopes.words.now l.scopes.list.now) l.i (l.start + l.k) l.heads l.entry_nexts
