-- `qcir_table::line_end` meets its contract.
-- Assumes nothing.
use mathlib.Core.Path.{sym, ◌∙◌}
use Rattle.lists.specs.Choice.{pick_yes, pick_no}
use Rattle.qcir_table.proofs.line_end.Goals as goal

pub returns-then-starts_line : goal.returns-then-starts_line
returns-then-starts_line c = sym (pick_yes _ _ _ (sym c.starts_line.ensures ∙ c.if-starts_line.true))

pub returns : goal.returns
returns c = sym (pick_no _ _ _ (sym c.starts_line.ensures ∙ c.if-starts_line.false))
