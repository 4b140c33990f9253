-- `matrix_writer::write_guard` meets its contract. Three nodes one after the other.
-- Assumes nothing.
use native.Mathlib.Omega.{arith}
use Rattle.matrix_writer.proofs.Buffer.{with_three}
use Rattle.matrix_writer.proofs.write_guard.Goals as goal

pub returns : goal.returns
returns c =
    with_three _ _ _ _ _ _ _ _ c.put_variable.ensures c.put_operator.ensures c.put_operator-2.ensures
    (omega (arith, c.requires))
