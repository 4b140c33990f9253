-- `range_check::EntryChains::push` meets its contract: its stores are the two that it speaks of.
-- Assumes nothing.
use mathlib.Core.Path.{refl}
use Rattle.range_check.proofs.EntryChains.push.Goals as goal

pub returns : goal.returns
returns c =
    record {
      heads_after = refl;
      prevs_after = refl;
      entries = refl;
    }
