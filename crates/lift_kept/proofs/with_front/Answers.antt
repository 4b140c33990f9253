-- `lift_kept::with_front` meets its contract.
-- Assumes nothing.
use mathlib.Core.Path.{refl}
use Rattle.lift_kept.specs.Steps.{with_front}
use Rattle.lift_kept.proofs.with_front.Goals as goal

pub returns : goal.returns
unfolding with_front
returns c = refl
