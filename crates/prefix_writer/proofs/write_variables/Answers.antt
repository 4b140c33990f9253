-- `prefix_writer::write_variables` meets its contract.
-- Assumes nothing.
use mathlib.Core.Path.{refl}
use native.Mathlib.Omega.{arith}
use Prim.Native.Nat.{◌+◌}
use Rattle.arrays.proofs.Depth.{level_fits}
use Rattle.prefix_writer.proofs.Writing.{tail_room, write_two}
use Rattle.prefix_writer.proofs.Names.{block_is, block_room}
use Rattle.prefix_writer.proofs.write_variables.Goals as goal

pub leading_variables-led-requires-clause-j_in_bounds : goal.leading_variables-led-requires-clause-j_in_bounds
leading_variables-led-requires-clause-j_in_bounds c = omega (arith, block_room _ _ _ _ c.requires.j_in_bounds refl)

pub offset_bounds-out-led : goal.offset_bounds-out-led
offset_bounds-out-led c = omega (arith, block_room _ _ _ _ c.requires.j_in_bounds c.leading_variables-led.ensures.value)

pub slice_bounds-level_variables-count : goal.slice_bounds-level_variables-count
slice_bounds-level_variables-count c = omega (arith, c.leading_variables-led.auto.out, block_room _ _ _ _ c.requires.j_in_bounds c.leading_variables-led.ensures.value)

pub slice_bounds-level_variables-start : goal.slice_bounds-level_variables-start
slice_bounds-level_variables-start c = omega (arith, c.leading_variables-led.auto.out, block_room _ _ _ _ c.requires.j_in_bounds c.leading_variables-led.ensures.value)

pub overflow_add-j : goal.overflow_add-j
overflow_add-j c = omega (arith, level_fits _ _ c.args.blocks.now.started.checked (c.args.j + 1) (omega (arith, c.requires.j_bound)))

pub level_variables-copied-requires-clause-level_in_bounds : goal.level_variables-copied-requires-clause-level_in_bounds
level_variables-copied-requires-clause-level_in_bounds c =
    tail_room c.leading_variables-led.new.out _ _ _ c.leading_variables-led.auto.out (block_room _ _ _ _ c.requires.j_in_bounds c.leading_variables-led.ensures.value)

pub overflow_add-result : goal.overflow_add-result
overflow_add-result c = omega (arith, c.level_variables-copied.ensures.value, block_room _ _ _ _ c.requires.j_in_bounds c.leading_variables-led.ensures.value)

pub returns : goal.returns
returns c =
    let a = c.leading_variables-led.ensures in
    let b = c.level_variables-copied.ensures in
    let w = write_two _ _ _ _ _ _ _ _ (block_is _ _) c.requires.j_in_bounds a.out_after a.value b.out_after b.value in record { out_after = w.0; value = w.1 }
