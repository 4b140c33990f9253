-- `refusals::accepted` meets its contract: the verdict is the definition's.
-- Assumes nothing.
use Rattle.refusals.specs.Verdict.{refusal, accepted}
use Rattle.refusals.proofs.accepted.Goals as goal

pub returns : goal.returns
unfolding refusal accepted
returns c = c.refusal.ensures
