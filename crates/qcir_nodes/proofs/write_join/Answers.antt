-- `qcir_nodes::write_join` meets its contract: an operator from the second input on.
-- Assumes nothing.
use Rattle.qcir_nodes.specs.Nodes.{add_join}
use Rattle.qcir_nodes.proofs.Nodes.{wrote_none, wrote_join}
use Rattle.qcir_nodes.proofs.write_join.Goals as goal

pub write_node-q-requires : goal.write_node-q-requires
unfolding add_join
write_node-q-requires c =
    let r = rw c.in-Some.is at c.requires in
    record { fits = r.fits; small = r.small }

pub returns-in-Some : goal.returns-in-Some
returns-in-Some c = rw c.in-Some.is (wrote_join _ (rw (c.operator_node.ensures, c.join_table.ensures) at c.write_node-q.ensures))

pub returns-in-None : goal.returns-in-None
unfolding add_join
returns-in-None c = rw c.in-None.is (wrote_none _ _ _)
