-- `form_check::block_fits` meets its contract: its tests are the definition's.
-- Assumes nothing.
use mathlib.Core.Path.{refl}
use Rattle.form_check.specs.Steps.{fitting_block}
use Rattle.form_check.proofs.block_fits.Goals as goal

pub returns : goal.returns
unfolding fitting_block
returns c = rw c.is_block_kind.ensures refl
