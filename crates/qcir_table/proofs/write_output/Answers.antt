-- `qcir_table::write_output` meets its contract.
-- Assumes nothing.
use native.Mathlib.Omega.{arith}
use Rattle.qcir_table.proofs.write_output.Goals as goal

pub overflow_cast-nodes : goal.overflow_cast-nodes
overflow_cast-nodes c = omega (arith, c.type_inv.nodes c.args.x)

pub write_literal-requires : goal.write_literal-requires
write_literal-requires c = rw c.is_minus.ensures c.requires.room

pub returns : goal.returns
returns c = rw c.is_minus.ensures at c.write_literal.ensures
