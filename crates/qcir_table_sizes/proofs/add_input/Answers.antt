-- `qcir_table_sizes::add_input` meets its contract: the block is added if variables are quantified.
-- Assumes nothing.
use mathlib.Core.Path.{sym, ◌∙◌, ap}
use borrow.Author.Tests.{eq-eqb, ne_eqb}
use Rattle.lists.specs.Choice.{pick_yes, pick_no}
use Rattle.qcir_table_sizes.specs.Pass.{input_added, block_added}
use Rattle.qcir_table_sizes.proofs.Passes.{operand_room}
use Rattle.qcir_table_sizes.proofs.add_input.Goals as goal

pub returns-then-s-eq0 : goal.returns-then-s-eq0
unfolding input_added
returns-then-s-eq0 c = c.add_operand-t.ensures ∙ sym (pick_yes _ _ _ (eq-eqb _ 0 c.if-s-eq0.true))

pub add_block-requires : goal.add_block-requires
add_block-requires c = rw c.add_operand-t.ensures (operand_room c.args.s c.requires c.args.role c.args.gate)

pub returns : goal.returns
unfolding input_added
returns c = c.add_block.ensures ∙ ap block_added c.add_operand-t.ensures ∙ sym (pick_no _ _ _ (ne_eqb _ 0 c.if-s-eq0.false))
