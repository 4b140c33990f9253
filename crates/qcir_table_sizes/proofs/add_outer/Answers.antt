-- `qcir_table_sizes::add_outer` meets its contract: by the entry's role.
-- Assumes nothing.
use mathlib.Core.Path.{sym, ◌∙◌}
use borrow.Author.Tests.{le-leb, lt-leb}
use Rattle.lists.specs.Choice.{pick_yes, pick_no}
use Rattle.qcir_table_sizes.specs.Pass.{outer_step, variable_added}
use Rattle.qcir_table_sizes.proofs.Passes.{variable_room}
use Rattle.qcir_table_sizes.proofs.add_outer.Goals as goal

pub returns-then-is_free : goal.returns-then-is_free
unfolding outer_step
returns-then-is_free c = sym (pick_yes _ _ _ (sym c.is_free.ensures ∙ c.if-is_free.true))

pub add_block-requires : goal.add_block-requires
unfolding variable_added
add_block-requires c = variable_room c.args.s c.requires

pub returns-then-role-le8 : goal.returns-then-role-le8
unfolding outer_step variable_added
returns-then-role-le8 c = c.add_block.ensures ∙ sym (pick_no _ _ _ (sym c.is_free.ensures ∙ c.if-is_free.false) ∙ pick_yes _ _ _ (le-leb _ 8 c.if-role-le8.true))

pub returns : goal.returns
unfolding outer_step variable_added
returns c = sym (pick_no _ _ _ (sym c.is_free.ensures ∙ c.if-is_free.false) ∙ pick_no _ _ _ (lt-leb _ 8 c.if-role-le8.false))
