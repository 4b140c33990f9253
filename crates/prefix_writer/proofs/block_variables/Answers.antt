-- `prefix_writer::block_variables` meets its contract.
-- Assumes nothing.
use native.Mathlib.Omega.{arith}
use Rattle.prefix_writer.proofs.Writing.{write_last}
use Rattle.prefix_writer.proofs.Names.{node_lt, names_low, copies_low, own_is, own_length, copies_are}
use Rattle.prefix_writer.proofs.block_variables.Goals as goal

pub write_entries-count-requires-clause-i_bound : goal.write_entries-count-requires-clause-i_bound
write_entries-count-requires-clause-i_bound c = (c.requires.inner_block.below, names_low c.args.blocks.now)

pub write_entries-count-requires-clause-i_in_bounds : goal.write_entries-count-requires-clause-i_in_bounds
write_entries-count-requires-clause-i_in_bounds c =
    let p = c.requires in
    omega (arith, own_length c.args.blocks.now _ p.inner_block, rw c.in-Own.is at p.i_in_bounds)

pub offset_bounds-blocks-i : goal.offset_bounds-blocks-i
offset_bounds-blocks-i c = omega (arith, node_lt c.args.blocks.now _ c.requires.inner_block.below)

pub bounds-blocks-i : goal.bounds-blocks-i
bounds-blocks-i c = let b = c.args.blocks.now in omega (arith, b.named.definitions_long, node_lt b _ c.requires.inner_block.below)

pub offset_bounds-out-count : goal.offset_bounds-out-count
offset_bounds-out-count c =
    let p = c.requires in
    omega (arith, c.write_entries-count.ensures.value, own_length c.args.blocks.now _ p.inner_block, rw c.in-Own.is at p.i_in_bounds)

pub bounds-out-count : goal.bounds-out-count
bounds-out-count c =
    let p = c.requires in
    omega (arith, c.write_entries-count.auto.out, c.write_entries-count.ensures.value, own_length c.args.blocks.now _ p.inner_block, rw c.in-Own.is at p.i_in_bounds)

pub overflow_add-result : goal.overflow_add-result
overflow_add-result c =
    let p = c.requires in
    omega (arith, c.write_entries-count.ensures.value, own_length c.args.blocks.now _ p.inner_block, rw c.in-Own.is at p.i_in_bounds)

pub write_entries-requires-clause-i_bound : goal.write_entries-requires-clause-i_bound
write_entries-requires-clause-i_bound c = (c.requires.inner_block.below, copies_low c.args.blocks.now)

pub write_entries-requires-clause-i_in_bounds : goal.write_entries-requires-clause-i_in_bounds
write_entries-requires-clause-i_in_bounds c =
    let p = c.requires in
    rw (copies_are c.args.blocks.now _ p.inner_block.below) (rw c.in-Copies.is at p.i_in_bounds)

pub returns-in-Own-clause-out_after : goal.returns-in-Own-clause-out_after
returns-in-Own-clause-out_after c =
    let b = c.args.blocks.now in
    let p = c.requires in
    let n = c.write_entries-count.ensures in
    rw (c.in-Own.is, own_is b _ p.inner_block)
    (write_last _ _ _ _ _ n.out_after n.value (omega (arith, own_length b _ p.inner_block, rw c.in-Own.is at p.i_in_bounds)))

pub returns-in-Own-clause-value : goal.returns-in-Own-clause-value
returns-in-Own-clause-value c =
    rw c.in-Own.is (omega (arith, c.write_entries-count.ensures.value, own_length c.args.blocks.now _ c.requires.inner_block))

pub returns-in-Copies-clause-out_after : goal.returns-in-Copies-clause-out_after
returns-in-Copies-clause-out_after c =
    rw (c.in-Copies.is, ← copies_are c.args.blocks.now _ c.requires.inner_block.below) c.write_entries.ensures.out_after

pub returns-in-Copies-clause-value : goal.returns-in-Copies-clause-value
returns-in-Copies-clause-value c =
    rw (c.in-Copies.is, ← copies_are c.args.blocks.now _ c.requires.inner_block.below) c.write_entries.ensures.value
