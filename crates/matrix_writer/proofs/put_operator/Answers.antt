-- `matrix_writer::put_operator` meets its contract. An operator node's words are those that `put_node` writes.
-- Assumes nothing.
use Rattle.matrix_writer.proofs.Buffer.{with_one}
use Rattle.matrix_writer.proofs.put_operator.Goals as goal

pub returns : goal.returns
returns c = with_one _ _ _ _ c.operator_node.ensures c.put_node.ensures
