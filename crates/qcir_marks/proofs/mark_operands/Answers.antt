-- `qcir_marks::mark_operands` meets its contract, kind by kind.
-- Assumes nothing.
use mathlib.Core.Path.{refl, ◌∙◌}
use mathlib.Core.Logic.{⊎_elim}
use Rattle.lists.specs.Choice.{pick}
use Rattle.lists.specs.Members.{mem}
use Rattle.qcir_form.specs.File.{row_operands}
use Rattle.qcir_marks.proofs.Steps.{operand_twice}
use Rattle.qcir_marks.proofs.mark_operands.Goals as goal

pub returns-in-Constant : goal.returns-in-Constant
unfolding row_operands mem pick
returns-in-Constant c = λ i. rw c.in-Constant.is refl

pub returns-in-Left : goal.returns-in-Left
unfolding row_operands
returns-in-Left c = λ i. rw c.in-Left.is (c.mark_two.ensures i ∙ operand_twice c.args.left _ i)

pub returns-in-Right : goal.returns-in-Right
unfolding row_operands
returns-in-Right c = λ i. rw c.in-Right.is (c.mark_two-in-Right.ensures i ∙ operand_twice c.args.right _ i)

pub returns-in-And : goal.returns-in-And
unfolding row_operands
returns-in-And c = λ i. ⊎_elim (λ e. rw e (c.mark_two-in-And.ensures i)) (λ e. rw e (c.mark_two-in-And.ensures i)) c.in-And.is
