-- `file_line::measured_line` meets its contract.
-- Assumes nothing.
use mathlib.Core.Path.{refl}
use Rattle.file_line.specs.FileLine.{line_of}
use Rattle.file_line.proofs.measured_line.Goals as goal

pub returns : goal.returns
unfolding line_of
returns c = refl
