-- `qcir_nodes::write_input` meets its contract: the input, then the operator.
-- Assumes nothing.
use Rattle.qcir_nodes.specs.Nodes.{add_input}
use Rattle.qcir_nodes.proofs.Nodes.{follows_literal, follows_join, room_first, room_second, wrote_then}
use Rattle.qcir_nodes.proofs.write_input.Goals as goal

pub write_literal-q-requires : goal.write_literal-q-requires
unfolding add_input
write_literal-q-requires c = room_first _ _ _ (follows_join c.args.p.inputs) c.requires

pub write_join-requires : goal.write_join-requires
unfolding add_input
write_join-requires c = room_second _ _ _ (follows_join c.args.p.inputs) c.requires _ _ _ c.write_literal-q.ensures c.write_literal-q.auto.words

pub returns : goal.returns
unfolding add_input
returns c = wrote_then _ _ _ (follows_join c.args.p.inputs) c.requires _ _ _ _ _ c.write_literal-q.ensures c.write_join.ensures (follows_literal _ _ _ _)
