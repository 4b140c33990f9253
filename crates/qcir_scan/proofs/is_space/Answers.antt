-- `qcir_scan::is_space` meets its contract.
-- Assumes nothing.
use mathlib.Core.Path.{refl}
use Rattle.qcir.specs.Spelling.{is_space}
use Rattle.qcir_scan.proofs.is_space.Goals as goal

pub returns : goal.returns
unfolding is_space
returns c = refl
