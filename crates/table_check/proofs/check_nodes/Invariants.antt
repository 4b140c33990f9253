-- `table_check::check_nodes` meets its contract: the loop's invariant is `Checked`, of the nodes passed so far, with the chains of the
-- entries that they cover and the counts of the nodes that they name; a fault makes the node the lowest with one.
-- Assumes nothing.
use Rattle.range_check.specs.Chains.{Ready}
use Rattle.tree_check.specs.Named.{Counted}
use Rattle.table_check.proofs.Faults.{Checked}
use Rattle.table_check.proofs.check_nodes.Given as goal

abbrev pub invariant-loop-i : goal.invariant-loop-i
invariant-loop-i l = Checked l.empty l.words l.list l.chains.entries l.i × Ready l.chains × Counted l.words l.named l.i
