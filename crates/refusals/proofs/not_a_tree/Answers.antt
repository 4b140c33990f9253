-- `refusals::not_a_tree` meets its contract: the verdict is the definition's.
-- Assumes nothing.
use mathlib.Core.Path.{refl}
use Rattle.refusals.specs.Verdict.{not_a_tree}
use Rattle.refusals.proofs.not_a_tree.Goals as goal

pub returns : goal.returns
unfolding not_a_tree
returns c = refl
