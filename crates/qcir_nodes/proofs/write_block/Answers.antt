-- `qcir_nodes::write_block` meets its contract: a node where the gate is quantified.
-- Assumes nothing.
use borrow.Author.Tests.{le-leb, lt-leb}
use Rattle.qcir_nodes.specs.Nodes.{add_block}
use Rattle.qcir_nodes.proofs.Nodes.{room_yes, wrote_yes, wrote_no, wrote_none}
use Rattle.qcir_nodes.proofs.write_block.Goals as goal

pub write_node-requires : goal.write_node-requires
unfolding add_block
write_node-requires c =
    let r = room_yes _ _ _ _ (le-leb _ _ c.if-p-ge-EXISTS_GATE.true) c.requires.room in
    record { fits = r.fits; small = r.small }

pub returns-then-p-ge-EXISTS_GATE : goal.returns-then-p-ge-EXISTS_GATE
unfolding add_block
returns-then-p-ge-EXISTS_GATE c = wrote_yes _ _ _ _ _ _ _ (le-leb _ _ c.if-p-ge-EXISTS_GATE.true) (rw (c.block_node.ensures, c.gate_block_kind.ensures) at c.write_node.ensures)

pub returns : goal.returns
unfolding add_block
returns c = wrote_no _ _ _ _ _ _ _ (lt-leb _ _ c.if-p-ge-EXISTS_GATE.false) (wrote_none _ _ _)
