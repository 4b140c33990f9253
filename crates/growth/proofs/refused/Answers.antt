-- `growth::refused` meets its contract.
-- Assumes nothing.
use Rattle.refusals.specs.Outcome.{refused as refused_of}
use Rattle.growth.proofs.Steps.{none_by_default}
use Rattle.growth.proofs.refused.Goals as goal

pub returns : goal.returns
unfolding refused_of
returns c = λ k. record { verdict = c.refusal-verdict.ensures k; sizes = none_by_default c.default-totals.result c.default-totals.ensures k }
