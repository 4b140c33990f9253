-- `range_check::EntryChains::in_chain` meets its contract: the loop's invariant is `Walked`, from the chain's head down to where the walk has come; the variable is met,
-- or none of the block's entries below the head is it. The measure is where the walk has come.
-- Assumes nothing.
use Rattle.range_check.proofs.Chains.{Walked}
use Rattle.range_check.proofs.EntryChains.in_chain.Given as goal

abbrev pub invariant-loop-c : goal.invariant-loop-c
invariant-loop-c l = Walked l.list l.self.prevs l.before l.first l.head l.x l.c

abbrev pub decreases-loop-c : goal.decreases-loop-c
decreases-loop-c l = l.c
