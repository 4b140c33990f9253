-- `growth::refused_line` meets its contract.
-- Assumes nothing.
use mathlib.Core.Path.{refl}
use Rattle.growth.specs.Lines.{refused_line}
use Rattle.growth.proofs.refused_line.Goals as goal

pub returns : goal.returns
unfolding refused_line
returns c = refl
