-- `matrix_writer::write_further` meets its contract. The loop's invariant, `Rest`: what is left to write along the chain. The measure is how many blocks that is.
-- Assumes nothing.
use Rattle.matrix_writer.proofs.Levels.{rest_all, rest_none, rest_next, rest_room}
use Rattle.arrays.proofs.Chains.{next_of_level}
use Rattle.matrix_writer.proofs.write_further.Goals as goal

pub loop-left-init : goal.loop-left-init
loop-left-init c = rest_all _ _ _ _ _ _ c.next_block-left.ensures.block c.next_block-left.ensures.blocks

pub write_next-next-requires-clause-room : goal.write_next-next-requires-clause-room
write_next-next-requires-clause-room c = rest_room _ _ _ c.loop-left.invariant c.in-Some.is c.requires.room

pub loop-left-preserved : goal.loop-left-preserved
loop-left-preserved c =
    let r = c.loop-left.invariant in
    let o = rw c.in-Some.is at r.of_level in
    let n = c.next_block-left-in-Some.ensures in
    let m = next_of_level _ o n.block n.blocks in
    rest_next _ _ _ _ r c.in-Some.is m.1 _ _ m.0 c.write_next-next.ensures c.write_next-next.auto.nodes c.requires.room.fits

pub returns : goal.returns
returns c = rest_none _ _ c.loop-left.invariant c.in_default.is
