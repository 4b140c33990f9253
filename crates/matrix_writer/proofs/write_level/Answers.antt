-- `matrix_writer::write_level` meets its contract. The first block's constraint, those after it, and the join.
-- Assumes nothing.
use Prim.Native.Nat.{◌+◌}
use native.Mathlib.Omega.{arith}
use Rattle.arrays.proofs.Depth.{level_fits}
use Rattle.arrays.proofs.Nodes.{accepted_tree}
use Rattle.matrix_writer.proofs.Chain.{level_has_blocks}
use Rattle.matrix_writer.proofs.Levels.{level_facts, wrote_level}
use Rattle.matrix_writer.proofs.write_level.Goals as goal

pub overflow_add-j : goal.overflow_add-j
overflow_add-j c = omega (arith, level_fits _ _ c.args.blocks.now.started.checked (c.args.j + 1) (omega (arith, c.requires.is_level.below)))

pub returns-in_default : goal.returns-in_default
returns-in_default c =
    absurd (level_has_blocks _ _ (accepted_tree _ _ c.args.blocks.now.started.checked) (omega arith) (omega (arith, c.requires.is_level.below)) c.in_default.ensures.blocks)

pub write_constraint-next-requires-clause-room : goal.write_constraint-next-requires-clause-room
write_constraint-next-requires-clause-room c = omega (arith, (level_facts c.args.at c.in-Some.ensures.block c.in-Some.ensures.blocks).long, c.requires)

pub write_further-end-requires-clause-room : goal.write_further-end-requires-clause-room
write_further-end-requires-clause-room c =
    rw c.write_constraint-next.ensures.next_is (omega (arith, (level_facts c.args.at c.in-Some.ensures.block c.in-Some.ensures.blocks).long, c.requires))

pub write_join-requires : goal.write_join-requires
write_join-requires c = omega (arith, c.requires, (level_facts c.args.at c.in-Some.ensures.block c.in-Some.ensures.blocks).long, rw c.write_constraint-next.ensures.next_is at c.write_further-end.ensures.next_is)

pub overflow_add-result : goal.overflow_add-result
overflow_add-result c = omega (arith, c.requires, (level_facts c.args.at c.in-Some.ensures.block c.in-Some.ensures.blocks).long, rw c.write_constraint-next.ensures.next_is at c.write_further-end.ensures.next_is)

pub returns : goal.returns
returns c =
    let f = level_facts c.args.at c.in-Some.ensures.block c.in-Some.ensures.blocks in
    wrote_level _ _ _ _ _ _ _ _ _ _ _ f.blocks_are f.block.level_is c.write_constraint-next.ensures c.write_further-end.ensures
    c.write_join.ensures c.requires.is_level.quantifier_is c.requires.room.fits
