-- `matrix_writer::write_further` meets its contract. The loop's invariant, `Rest`: what is left to write along the chain. The measure is how many blocks that is.
-- Assumes nothing.
use Prim.Native.Nat.{suc}
use lib.ListN.{length}
use Rattle.prenex_form.specs.Scope.{level}
use Rattle.arrays.specs.Chains.{blocks_from, linked}
use Rattle.arrays.specs.Blocks.{table}
use Rattle.matrix_writer.proofs.Levels.{Rest}
use Rattle.matrix_writer.proofs.write_further.Given as goal

abbrev pub invariant-loop-left : goal.invariant-loop-left
invariant-loop-left l = let t = table l.blocks in Rest t (level t l.i) (blocks_from t (level t l.i) (suc l.i)) l.initial.nodes l.at l.nodes l.next l.left

abbrev pub decreases-loop-left : goal.decreases-loop-left
decreases-loop-left l = let t = table l.blocks in length (linked t (level t l.i) l.left)
