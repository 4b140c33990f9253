-- `acceptance::partial_node` meets its contract: its test is the definition's.
-- Assumes nothing.
use Rattle.std.proofs.Common.{rules}
use Rattle.acceptance.specs.Verdict.{partial_node}
use Rattle.acceptance.proofs.partial_node.Goals as goal

pub returns : goal.returns
unfolding partial_node
returns c = search rules
