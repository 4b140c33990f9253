-- `qcir_table::line_block_kind` meets its contract.
-- Assumes nothing.
use mathlib.Core.Path.{sym}
use borrow.Author.Tests.{le-leb, lt-leb}
use Rattle.lists.specs.Choice.{pick_yes, pick_no}
use Rattle.qcir_table.specs.Passes.{line_block_kind}
use Rattle.qcir_table.proofs.line_block_kind.Goals as goal

pub returns-then-role-le-EXISTS_LINE_LAST : goal.returns-then-role-le-EXISTS_LINE_LAST
unfolding line_block_kind
returns-then-role-le-EXISTS_LINE_LAST c = sym (pick_yes _ _ _ (le-leb _ _ c.if-role-le-EXISTS_LINE_LAST.true))

pub returns : goal.returns
unfolding line_block_kind
returns c = sym (pick_no _ _ _ (lt-leb _ _ c.if-role-le-EXISTS_LINE_LAST.false))
