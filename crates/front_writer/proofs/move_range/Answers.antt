-- `front_writer::move_range` meets its contract.
-- Assumes nothing.
use Prim.Native.Nat.{◌+◌, ◌*◌}
use native.Mathlib.Omega.{arith}
use Rattle.front_writer.proofs.move_range.Goals as goal

pub overflow_cast-count : goal.overflow_cast-count
overflow_cast-count c = omega (arith, (c.type_inv.prefix (3 * c.args.j + 2)).fits)

pub write_words-requires : goal.write_words-requires
write_words-requires c = (c.requires.prefix_width_in_bounds, omega (arith, c.requires.by_bound), omega arith)
