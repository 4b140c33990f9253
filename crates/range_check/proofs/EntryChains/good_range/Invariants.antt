-- `range_check::EntryChains::good_range` meets its contract: the loop's invariant is that the entries passed so far are good and chained; an entry that is not new spoils the range.
-- Assumes nothing.
use mathlib.Core.Bool.{true}
use mathlib.Core.Path.{◌≡◌}
use Rattle.range_check.specs.Chains.{good_range, Chains}
use Rattle.range_check.proofs.EntryChains.good_range.Given as goal

abbrev pub invariant-loop-k : goal.invariant-loop-k
invariant-loop-k l = (good_range l.list l.first l.k ≡ true) × Chains l.list l.self.heads l.self.prevs l.before l.first l.k × (l.self.entries ≡ l.before)
