-- `matrix_writer::write_constraint` meets its contract: the definition, the equations and the guard.
-- Assumes nothing.
use mathlib.Core.Path.{◌∙◌, ap}
use native.Mathlib.Omega.{arith}
use Rattle.formula.specs.declared.NodeWords.{NodeWords}
use Rattle.prenex_form.specs.Matrix.{guard}
use Rattle.matrix_writer.proofs.Constraint.{block_facts, wrote_constraint}
use Rattle.matrix_writer.proofs.write_constraint.Goals as goal

pub node_at-block-requires : goal.node_at-block-requires
node_at-block-requires c = omega (arith, block_facts c.args.blocks.now c.args.at c.requires.inner_block)

pub offset_bounds-blocks-i : goal.offset_bounds-blocks-i
offset_bounds-blocks-i c = omega (arith, block_facts c.args.blocks.now c.args.at c.requires.inner_block)

pub bounds-blocks-i : goal.bounds-blocks-i
bounds-blocks-i c = omega (arith, block_facts c.args.blocks.now c.args.at c.requires.inner_block)

pub write_definition-requires : goal.write_definition-requires
write_definition-requires c = omega (arith, block_facts c.args.blocks.now c.args.at c.requires.inner_block)

pub offset_bounds-blocks-i-2 : goal.offset_bounds-blocks-i-2
offset_bounds-blocks-i-2 c = omega (arith, block_facts c.args.blocks.now c.args.at c.requires.inner_block)

pub bounds-blocks-i-2 : goal.bounds-blocks-i-2
bounds-blocks-i-2 c = omega (arith, block_facts c.args.blocks.now c.args.at c.requires.inner_block, c.requires)

pub overflow_add-blocks : goal.overflow_add-blocks
overflow_add-blocks c = omega (arith, block_facts c.args.blocks.now c.args.at c.requires.inner_block)

pub overflow_add-blocks-2 : goal.overflow_add-blocks-2
overflow_add-blocks-2 c = omega (arith, block_facts c.args.blocks.now c.args.at c.requires.inner_block)

pub write_entries-next-requires : goal.write_entries-next-requires
write_entries-next-requires c = omega (arith, block_facts c.args.blocks.now c.args.at c.requires.inner_block, ap (λ (w : NodeWords). w.b) c.node_at-block.ensures, c.requires)

pub write_guard-requires : goal.write_guard-requires
write_guard-requires c = omega (arith, block_facts c.args.blocks.now c.args.at c.requires.inner_block, ap (λ (w : NodeWords). w.b) c.node_at-block.ensures, c.requires)

pub overflow_add-result : goal.overflow_add-result
overflow_add-result c = omega (arith, block_facts c.args.blocks.now c.args.at c.requires.inner_block, ap (λ (w : NodeWords). w.b) c.node_at-block.ensures, c.requires)

pub returns : goal.returns
returns c =
    wrote_constraint c.args.blocks.now c.requires.inner_block _ _ _ _ _ _ _ c.node_at-block.ensures (c.guard_table-table.ensures ∙ ap guard c.of_kind.ensures)
    c.write_definition.ensures c.write_entries-next.ensures.wrote c.write_guard.ensures c.requires.room.fits
