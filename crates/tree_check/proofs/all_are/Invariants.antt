-- `tree_check::all_are` meets its contract: the loop's invariant: if none has failed so far, the counts passed are the one wanted.
-- Assumes nothing.
use Rattle.std.proofs.Common.{true, ◌≡◌, ℕ, ◌<◌, get_or}
use Rattle.tree_check.proofs.all_are.Given as goal

abbrev pub invariant-loop-count : goal.invariant-loop-count
invariant-loop-count g l =
    l.all ≡ true → (k : ℕ) → k < l.count-index → g.T.PartialEq.eq (get_or l.counts k l.one) l.one ≡ true
