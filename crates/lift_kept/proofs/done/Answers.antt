-- `lift_kept::done` meets its contract: the verdict of what is accepted, and the sizes.
-- Assumes nothing.
use Rattle.refusals.specs.Outcome.{done}
use Rattle.lift_kept.proofs.done.Goals as goal

pub returns : goal.returns
unfolding done
returns c = λ i. record { verdict = c.accepted-verdict.ensures i; sizes = c.args.sizes }
