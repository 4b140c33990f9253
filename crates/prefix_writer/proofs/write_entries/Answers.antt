-- `prefix_writer::write_entries` meets its contract.
-- Assumes nothing.
use mathlib.Core.Path.{◌∙◌, sym}
use native.Mathlib.Omega.{arith}
use Rattle.prefix_writer.proofs.Names.{node_below, node_lt, count_le, held_is, held_length}
use Rattle.prefix_writer.proofs.write_entries.Goals as goal

pub count_at-count-requires : goal.count_at-count-requires
count_at-count-requires c = node_below c.args.blocks.now _ c.requires.i_bound.0

pub offset_bounds-blocks-i : goal.offset_bounds-blocks-i
offset_bounds-blocks-i c = omega (arith, node_lt c.args.blocks.now _ c.requires.i_bound.0)

pub bounds-blocks-i : goal.bounds-blocks-i
bounds-blocks-i c = let b = c.args.blocks.now in omega (arith, b.started.starts_long, node_lt b _ c.requires.i_bound.0)

pub write_numbers-requires : goal.write_numbers-requires
write_numbers-requires c =
    let b = c.args.blocks.now in
    let p = c.requires in
    let n = c.count_at-count.ensures in
    omega (arith, n, p.i_bound.1, p.i_in_bounds, count_le b _ p.i_bound.0, held_length b _ p.i_bound.0 c.args.first)

pub returns-clause-out_after : goal.returns-clause-out_after
returns-clause-out_after c = rw (← held_is c.args.blocks.now _ c.requires.i_bound.0 c.args.first, ← c.count_at-count.ensures) c.write_numbers.ensures

pub returns-clause-value : goal.returns-clause-value
returns-clause-value c = c.count_at-count.ensures ∙ sym (held_length c.args.blocks.now _ c.requires.i_bound.0 c.args.first)
