-- `qcir_nodes::write_operand` meets its contract: a constant, or an input.
-- Assumes nothing.
use borrow.Author.Tests.{eq-eqb, ne_eqb}
use Rattle.qcir_nodes.specs.Nodes.{add_operand}
use Rattle.qcir_nodes.proofs.Nodes.{room_yes, room_no, wrote_yes, wrote_no}
use Rattle.qcir_nodes.proofs.write_operand.Goals as goal

pub write_node-requires : goal.write_node-requires
unfolding add_operand
write_node-requires c =
    let r = room_yes _ _ _ _ (eq-eqb _ _ c.if-role-eq-EMPTY.true) c.requires in
    record { fits = r.fits; small = r.small }

pub returns-then-role-eq-EMPTY : goal.returns-then-role-eq-EMPTY
unfolding add_operand
returns-then-role-eq-EMPTY c = wrote_yes _ _ _ _ _ _ _ (eq-eqb _ _ c.if-role-eq-EMPTY.true) (rw (c.constant_node.ensures, c.empty_constant.ensures) at c.write_node.ensures)

pub write_input-requires : goal.write_input-requires
unfolding add_operand
write_input-requires c = rw c.is_minus.ensures (room_no _ _ _ _ (ne_eqb _ _ c.if-role-eq-EMPTY.false) c.requires)

pub returns : goal.returns
unfolding add_operand
returns c = wrote_no _ _ _ _ _ _ _ (ne_eqb _ _ c.if-role-eq-EMPTY.false) (rw c.is_minus.ensures at c.write_input.ensures)
