-- `matrix_writer::write_next` meets its contract. The constraint, and one operator after it.
-- Assumes nothing.
use mathlib.Core.Path.{◌≡◌}
use mathlib.Core.List.{[], ◌∷◌}
use Prim.Native.Nat.{◌+◌}
use native.Mathlib.Omega.{arith}
use lib.ListN.{length}
use Rattle.arrays.specs.Blocks.{table}
use Rattle.prenex_form.specs.Matrix.{constraint, further}
use Rattle.matrix_writer.proofs.Levels.{length_further_one, wrote_further}
use Rattle.matrix_writer.proofs.write_next.Goals.{Start}
use Rattle.matrix_writer.proofs.write_next.Goals as goal

-- the nodes of one more block
longer : (c : Start) → length (further (table c.args.blocks.now) (c.args.i ∷ []) c.args.at) ≡ length (constraint (table c.args.blocks.now) c.args.i c.args.at) + 1
longer c = length_further_one _ _ _

pub write_constraint-end-requires : goal.write_constraint-end-requires
write_constraint-end-requires c =
    record {
      inner_block = c.requires.inner_block;
      room = omega (arith, longer (goal.at.write_constraint-end-requires c).Start);
    }

pub put_operator-requires : goal.put_operator-requires
put_operator-requires c = omega (arith, longer (goal.at.put_operator-requires c).Start, c.requires)

pub overflow_add-result : goal.overflow_add-result
overflow_add-result c = omega (arith, longer (goal.at.overflow_add-result c).Start, c.requires)

pub returns : goal.returns
returns c = wrote_further _ _ _ _ _ _ _ c.write_constraint-end.ensures c.put_operator.ensures c.requires.room.fits
