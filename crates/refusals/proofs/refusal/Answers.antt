-- `refusals::refusal` meets its contract: the verdict is the definition's.
-- Assumes nothing.
use mathlib.Core.Path.{refl}
use Rattle.refusals.specs.Verdict.{refusal}
use Rattle.refusals.proofs.refusal.Goals as goal

pub returns : goal.returns
unfolding refusal
returns c = refl
