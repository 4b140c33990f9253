-- `qcir_unbound::pass` meets its contract.
-- Assumes nothing.
use mathlib.Core.Bool.{false}
use mathlib.Core.Path.{sym, ◌∙◌, ap}
use native.Mathlib.Numerals.{add-one}
use Rattle.lists.specs.Choice.{pick_yes, pick_no}
use Rattle.qcir_unbound.specs.Steps.{moved, past}
use Rattle.qcir_unbound.proofs.pass.Goals as goal

pub returns-then-is_end : goal.returns-then-is_end
unfolding past
returns-then-is_end c = c.move_to.ensures ∙ sym (pick_yes _ _ _ (sym c.is_end.ensures ∙ c.if-is_end.true))

pub returns : goal.returns
unfolding past
returns c = c.move_to-2.ensures ∙ ap (λ i. moved i false c.args.walk) (add-one c.args.i) ∙ sym (pick_no _ _ _ (sym c.is_end.ensures ∙ c.if-is_end.false))
