-- `qcir_literals::gate_after` meets its contract, kind by kind.
-- Assumes nothing.
use native.Mathlib.Omega.{arith}
use mathlib.Core.Logic.{⊎_elim}
use mathlib.Core.Path.{refl}
use Rattle.formula.specs.Truth.{digit}
use Rattle.qcir_form.specs.File.{row_has_gate}
use Rattle.qcir_literals.proofs.gate_after.Goals as goal

pub returns-in-Left : goal.returns-in-Left
unfolding row_has_gate digit
returns-in-Left c = ⊎_elim (λ e. rw e (omega arith)) (λ e. rw e (omega arith)) c.in-Left.is

pub returns-in-Constant : goal.returns-in-Constant
unfolding row_has_gate digit
returns-in-Constant c = ⊎_elim (λ e. rw e refl) (⊎_elim (λ e. rw e refl) (λ e. rw e refl)) c.in-Constant.is
