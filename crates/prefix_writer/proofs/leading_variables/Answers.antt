-- `prefix_writer::leading_variables` meets its contract.
-- Assumes nothing.
use Rattle.prefix_writer.proofs.Words.{has_root}
use Rattle.prefix_writer.proofs.Names.{names_low, root_below, leading_root, leading_level}
use Rattle.prefix_writer.proofs.leading_variables.Goals as goal

pub overflow_sub-root : goal.overflow_sub-root
overflow_sub-root c = has_root _ _ c.args.blocks.now.started.checked

pub write_entries-requires-clause-i_bound : goal.write_entries-requires-clause-i_bound
write_entries-requires-clause-i_bound c = (root_below c.args.blocks.now, names_low c.args.blocks.now)

pub write_entries-requires-clause-i_in_bounds : goal.write_entries-requires-clause-i_in_bounds
write_entries-requires-clause-i_in_bounds c = rw (leading_root c.args.blocks.now _ c.if-j-eq0.true) at c.requires.j_in_bounds

pub returns-then-j-eq0-clause-out_after : goal.returns-then-j-eq0-clause-out_after
returns-then-j-eq0-clause-out_after c = rw (leading_root c.args.blocks.now _ c.if-j-eq0.true) c.write_entries.ensures.out_after

pub returns-then-j-eq0-clause-value : goal.returns-then-j-eq0-clause-value
returns-then-j-eq0-clause-value c = rw (leading_root c.args.blocks.now _ c.if-j-eq0.true) c.write_entries.ensures.value

pub level_variables-requires-clause-level_in_bounds : goal.level_variables-requires-clause-level_in_bounds
level_variables-requires-clause-level_in_bounds c = rw (leading_level _ _ c.if-j-eq0.false) at c.requires.j_in_bounds

pub returns-clause-out_after : goal.returns-clause-out_after
returns-clause-out_after c = rw (leading_level _ _ c.if-j-eq0.false) c.level_variables.ensures.out_after

pub returns-clause-value : goal.returns-clause-value
returns-clause-value c = rw (leading_level _ _ c.if-j-eq0.false) c.level_variables.ensures.value
