-- `qcir_table_sizes::gate_of` meets its contract: an element of 16 bits is an index of the array.
-- Assumes nothing.
use native.Mathlib.Omega.{arith}
use Rattle.qcir_table_sizes.proofs.gate_of.Goals as goal

pub overflow_cast-x : goal.overflow_cast-x
overflow_cast-x c = omega (arith, c.type_inv.numbers c.args.i)

pub offset_bounds-gates-x : goal.offset_bounds-gates-x
offset_bounds-gates-x c = omega (arith, c.type_inv.numbers c.args.i)

pub bounds-gates-x : goal.bounds-gates-x
bounds-gates-x c = omega (arith, c.type_inv.numbers c.args.i)
