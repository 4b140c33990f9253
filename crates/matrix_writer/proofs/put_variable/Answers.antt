-- `matrix_writer::put_variable` meets its contract. A variable node's words are those that `put_node` writes.
-- Assumes nothing.
use Rattle.matrix_writer.proofs.Buffer.{with_one}
use Rattle.matrix_writer.proofs.put_variable.Goals as goal

pub returns : goal.returns
returns c = with_one _ _ _ _ c.variable_node.ensures c.put_node.ensures
