-- `binders::walk` meets its contract. The loop's invariant: `Walking`, and the steps taken and those left are those of the
-- whole walk. The measure is the steps left.
-- Assumes nothing.
use mathlib.Core.Path.{◌≡◌}
use Prim.Native.Nat.{◌+◌}
use Rattle.formula.specs.Words.{table_of}
use Rattle.binders.specs.Walk.{Walking, steps_left, walk_steps}
use Rattle.binders.proofs.walk.Given as goal

abbrev pub invariant-loop-place : goal.invariant-loop-place
invariant-loop-place l = Walking l.scopes.words.now l.scopes.list.now l.bindings l.heads l.entry_nexts l.place
    × (l.place.steps + steps_left (table_of l.scopes.words.now l.scopes.list.now) l.place ≡ walk_steps (table_of l.scopes.words.now l.scopes.list.now))

abbrev pub decreases-loop-place : goal.decreases-loop-place
decreases-loop-place l = steps_left (table_of l.scopes.words.now l.scopes.list.now) l.place
