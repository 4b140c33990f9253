-- `range_check::EntryChains::new` meets its contract: new arrays chain no entry.
-- Assumes nothing.
use mathlib.Core.Path.{refl}
use Rattle.range_check.proofs.Chains.{earlier_new}
use Rattle.range_check.proofs.EntryChains.new.Goals as goal

pub returns : goal.returns
returns c = (refl, earlier_new)
