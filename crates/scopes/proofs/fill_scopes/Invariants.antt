-- `scopes::fill_scopes` meets its contract. The loop's invariant: the pass has visited the nodes from i up, one by one, and counted their
-- blocks.
-- Assumes nothing.
use mathlib.Core.Path.{◌≡◌}
use Prim.Native.Nat.{◌+◌}
use Rattle.formula.specs.Words.{node_count, table_of}
use Rattle.block_counts.specs.Counting.{CountsFrom}
use Rattle.scopes.specs.Passes.{ScopesFrom}
use Rattle.scopes.proofs.fill_scopes.Given as goal

abbrev pub invariant-loop-i : goal.invariant-loop-i
invariant-loop-i l = (l.pass.visited + l.i ≡ node_count l.words) × ScopesFrom (table_of l.words l.list) l.i l.parents l.levels × CountsFrom (table_of l.words l.list) l.i l.pass.counts
