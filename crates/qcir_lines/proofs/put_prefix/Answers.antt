-- `qcir_lines::put_prefix` meets its contract. The invariant: the lines of the first j blocks are put.
-- Assumes nothing.
use native.Mathlib.Omega.{arith}
use Rattle.qcir_lines.proofs.Prefix.{blocks_none, blocks_next, begun_short}
use Rattle.qcir_lines.proofs.put_prefix.Goals as goal

pub loop-j-init : goal.loop-j-init
loop-j-init c = blocks_none _ _ _ _

pub put_prefix_block-next-requires-clause-prefix_width_in_bounds : goal.put_prefix_block-next-requires-clause-prefix_width_in_bounds
put_prefix_block-next-requires-clause-prefix_width_in_bounds c =
    let l = c.loop-j in
    let w = begun_short c.args.prefix.now c.args.variables.now l.j c.requires.writable l.auto.j-end in
    (omega arith, omega (arith, l.invariant.counted))

pub loop-j-preserved : goal.loop-j-preserved
loop-j-preserved c =
    let l = c.loop-j in
    blocks_next c.args.prefix.now c.args.variables.now l.j l.invariant c.put_prefix_block-next.ensures
