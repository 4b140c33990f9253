-- `matrix_writer::write_definition` meets its contract. Two nodes one after the other.
-- Assumes nothing.
use native.Mathlib.Omega.{arith}
use Rattle.matrix_writer.proofs.Buffer.{with_two}
use Rattle.matrix_writer.proofs.write_definition.Goals as goal

pub returns : goal.returns
returns c = with_two _ _ _ _ _ _ c.put_variable.ensures c.put_operator.ensures (omega (arith, c.requires))
