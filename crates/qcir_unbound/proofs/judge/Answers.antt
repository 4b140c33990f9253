-- `qcir_unbound::judge` meets its contract.
-- Assumes nothing.
use mathlib.Core.Path.{sym, ◌∙◌}
use Rattle.lists.specs.Choice.{pick_yes, pick_no}
use Rattle.qcir_unbound.specs.Steps.{judged}
use Rattle.qcir_unbound.proofs.judge.Goals as goal

pub returns-then-bound : goal.returns-then-bound
unfolding judged
returns-then-bound c = sym (pick_yes _ _ _ c.if-bound.true)

pub returns : goal.returns
unfolding judged
returns c = c.note.ensures ∙ sym (pick_no _ _ _ c.if-bound.false)
