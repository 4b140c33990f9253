-- `matrix_check::is_name` meets its contract: its test is the definition.
-- Assumes nothing.
use mathlib.Core.Path.{refl}
use Rattle.acceptance.specs.Verdict.{is_number_to}
use Rattle.matrix_check.proofs.is_name.Goals as goal

pub returns : goal.returns
unfolding is_number_to
returns c = refl
