-- `qcir_literals::row_literal` meets its contract, kind by kind.
-- Assumes nothing.
use mathlib.Core.Logic.{⊎_elim}
use Rattle.qcir_form.specs.File.{row_literal}
use Rattle.qcir_literals.proofs.Codes.{of_gate, of_xor}
use Rattle.qcir_literals.proofs.row_literal.Goals as goal

pub returns-in-Left-clause-result_value : goal.returns-in-Left-clause-result_value
unfolding row_literal
returns-in-Left-clause-result_value c = rw c.in-Left.is c.turned.ensures.result_value

pub returns-in-Right-clause-result_value : goal.returns-in-Right-clause-result_value
unfolding row_literal
returns-in-Right-clause-result_value c = rw c.in-Right.is c.turned-in-Right.ensures.result_value

pub returns-in-Xor-clause-result_value : goal.returns-in-Xor-clause-result_value
unfolding row_literal
returns-in-Xor-clause-result_value c = let a = c.args in rw c.in-Xor.is (of_xor a.gate a.l a.m a.row.whole)

pub returns-in-Constant-clause-result_value : goal.returns-in-Constant-clause-result_value
unfolding row_literal
returns-in-Constant-clause-result_value c = let g = of_gate c.args.gate c.args.row.whole in ⊎_elim (λ e. rw e g) (λ e. rw e g) c.in-Constant.is
