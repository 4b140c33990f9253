-- `table_check::leaf_fault` meets its contract: its test is the one that picks.
-- Assumes nothing.
use mathlib.Core.Path.{sym}
use Rattle.lists.specs.Choice.{pick_yes, pick_no}
use Rattle.table_check.proofs.leaf_fault.Goals as goal

pub returns-then-in_range-node : goal.returns-then-in_range-node
returns-then-in_range-node c = sym (pick_yes _ _ _ c.if-in_range-node.true)

pub returns-else-in_range-node : goal.returns-else-in_range-node
returns-else-in_range-node c = sym (pick_no _ _ _ c.if-in_range-node.false)
