-- `qcir_nodes::write_use` meets its contract: what the token adds, and at the last one the gate's block and node.
-- Assumes nothing.
use mathlib.Core.Path.{sym, ◌∙◌}
use native.Mathlib.Omega.{arith}
use Rattle.lists.specs.Choice.{pick_yes, pick_no}
use Rattle.qcir_nodes.specs.Nodes.{add_use, add_end}
use Rattle.qcir_nodes.proofs.Nodes.{follows_operand, follows_end, room_first, room_second, room_yes, wrote_then, wrote_yes, wrote_no, wrote_none, first_le, closed_small}
use Rattle.qcir_nodes.proofs.write_use.Goals as goal

pub overflow_cast-gate-2 : goal.overflow_cast-gate-2
overflow_cast-gate-2 c = omega (arith, c.type_inv.nodes c.args.x)

pub write_operand-q-requires : goal.write_operand-q-requires
unfolding add_use
write_operand-q-requires c = room_first _ _ _ (follows_end _) c.requires.room

pub returns-then-not-is_last : goal.returns-then-not-is_last
unfolding add_use add_end
returns-then-not-is_last c =
    let t = sym c.is_last.ensures ∙ c.if-not-is_last.true in record {
      wrote = wrote_then _ _ _ (follows_end c.args.role) c.requires.room _ _ _ _ _ c.write_operand-q.ensures (wrote_no _ _ _ _ _ _ _ t (wrote_none _ _ _)) (follows_operand _ _ _ _);
      nodes_after = sym (pick_no _ _ _ t);
    }

pub write_block-r-requires : goal.write_block-r-requires
unfolding add_use add_end
write_block-r-requires c =
    let t = sym c.is_last.ensures ∙ c.if-not-is_last.false in record {
      first_le_listed = first_le c.write_operand-q.ensures (follows_operand _ _ _ _) c.requires.first_le_listed;
      room = room_yes _ _ _ _ t (room_second _ _ _ (follows_end c.args.role) c.requires.room _ _ _ c.write_operand-q.ensures c.write_operand-q.auto.words);
    }

pub overflow_add-nodes : goal.overflow_add-nodes
unfolding add_use
overflow_add-nodes c =
    let r = room_first _ _ _ (follows_end _) c.requires.room in
    let n = closed_small _ _ _ (omega (arith, c.type_inv.nodes c.args.x)) c.write_operand-q.ensures c.write_block-r.ensures r in
    omega (arith, n.0, n.1)

pub overflow_cast-nodes : goal.overflow_cast-nodes
unfolding add_use
overflow_cast-nodes c =
    let r = room_first _ _ _ (follows_end _) c.requires.room in
    let n = closed_small _ _ _ (omega (arith, c.type_inv.nodes c.args.x)) c.write_operand-q.ensures c.write_block-r.ensures r in
    omega (arith, n.0, n.1)

pub returns : goal.returns
unfolding add_use add_end
returns c =
    let t = sym c.is_last.ensures ∙ c.if-not-is_last.false in record {
      wrote = wrote_then _ _ _ (follows_end c.args.role) c.requires.room _ _ _ _ _ c.write_operand-q.ensures (wrote_yes _ _ _ _ _ _ _ t c.write_block-r.ensures) (follows_operand _ _ _ _);
      nodes_after = sym (pick_yes _ _ _ t);
    }
