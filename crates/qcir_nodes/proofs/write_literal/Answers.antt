-- `qcir_nodes::write_literal` meets its contract: the name, then its not.
-- Assumes nothing.
use Rattle.qcir_nodes.specs.Nodes.{add_literal}
use Rattle.qcir_nodes.proofs.Nodes.{follows_name, follows_minus, room_first, room_second, wrote_then}
use Rattle.qcir_nodes.proofs.write_literal.Goals as goal

pub write_name-q-requires : goal.write_name-q-requires
unfolding add_literal
write_name-q-requires c = room_first _ _ _ (follows_minus c.args.minus) c.requires

pub write_minus-requires : goal.write_minus-requires
unfolding add_literal
write_minus-requires c = room_second _ _ _ (follows_minus c.args.minus) c.requires _ _ _ c.write_name-q.ensures c.write_name-q.auto.words

pub returns : goal.returns
unfolding add_literal
returns c = wrote_then _ _ _ (follows_minus c.args.minus) c.requires _ _ _ _ _ c.write_name-q.ensures c.write_minus.ensures (follows_name _ _ _)
