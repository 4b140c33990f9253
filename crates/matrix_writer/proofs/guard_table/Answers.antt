-- `matrix_writer::guard_table` meets its contract.
-- Assumes nothing.
use mathlib.Core.Path.{refl}
use Rattle.prenex_form.specs.Matrix.{guard}
use Rattle.matrix_writer.proofs.guard_table.Goals as goal

pub returns-in-Exists : goal.returns-in-Exists
unfolding guard
returns-in-Exists c = rw c.in-Exists.is refl

pub returns-in-ForAll : goal.returns-in-ForAll
unfolding guard
returns-in-ForAll c = rw c.in-ForAll.is refl
