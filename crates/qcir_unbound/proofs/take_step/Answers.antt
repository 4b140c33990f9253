-- `qcir_unbound::take_step` meets its contract.
-- Assumes nothing.
use mathlib.Core.Path.{sym, ◌∙◌}
use Rattle.lists.specs.Choice.{pick_yes, pick_no}
use Rattle.qcir_unbound.specs.Steps.{state_of, step_at}
use Rattle.qcir_unbound.proofs.take_step.Goals as goal

pub go_back-requires : goal.go_back-requires
go_back-requires c =
    record {
      step_fits = c.requires.step_fits;
      back_fits = c.requires.back_fits c.if-walk.true;
    }

pub returns-then-walk : goal.returns-then-walk
unfolding step_at state_of
returns-then-walk c = c.go_back.ensures ∙ sym (pick_yes _ _ _ c.if-walk.true)

pub returns : goal.returns
unfolding step_at state_of
returns c = c.go_on.ensures ∙ sym (pick_no _ _ _ c.if-walk.false)
