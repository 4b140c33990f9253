-- `prenex::refused` meets its contract: the verdict whole, and all sizes 0.
-- Assumes nothing.
use mathlib.Core.Path.{refl}
use Rattle.refusals.specs.Outcome.{refused}
use Rattle.prenex.specs.Outcome.{no_sizes}
use Rattle.prenex.proofs.refused.Goals as goal

pub returns : goal.returns
unfolding refused no_sizes
returns c = refl
