-- `prefix_writer::level_variables` meets its contract. The loop's invariant: the parts of the level's blocks before the one
-- that is left are written. The measure is how many blocks are left.
-- Assumes nothing.
use native.Mathlib.Omega.{arith}
use Rattle.arrays.proofs.Chains.{next_of_level}
use Rattle.prefix_writer.proofs.Levels.{walk_start, walk_block, walk_room, walk_tail, walk_step, walk_end}
use Rattle.prefix_writer.proofs.level_variables.Goals as goal

pub loop-left-init : goal.loop-left-init
loop-left-init c = walk_start _ _ _ _ _ c.first_block-left.ensures.block c.first_block-left.ensures.blocks

pub block_variables-at-requires-clause-i_in_bounds : goal.block_variables-at-requires-clause-i_in_bounds
block_variables-at-requires-clause-i_in_bounds c = walk_tail _ _ _ _ _ _ _ c.loop-left.invariant _ c.in-Some.is c.requires.level_in_bounds

pub overflow_add-at : goal.overflow_add-at
overflow_add-at c =
    omega (arith, c.block_variables-at.ensures.value, walk_room _ _ _ _ _ _ _ c.loop-left.invariant _ c.in-Some.is c.requires.level_in_bounds)

pub loop-left-preserved : goal.loop-left-preserved
loop-left-preserved c =
    let w = c.loop-left.invariant in
    let e = c.block_variables-at.ensures in
    let n = c.next_block-left.ensures in
    walk_step _ _ _ _ _ _ _ w _ c.in-Some.is c.requires.level_in_bounds _ _ _ e.out_after e.value (next_of_level _ (walk_block _ _ _ _ _ _ _ w _ c.in-Some.is) n.block n.blocks)

pub returns : goal.returns
returns c = let w = walk_end _ _ _ _ _ _ _ c.loop-left.invariant c.in_default.is in record { out_after = w.0; value = w.1 }
