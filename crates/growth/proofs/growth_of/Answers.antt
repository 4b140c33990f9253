-- `growth::growth_of` meets its contract.
-- Assumes nothing.
use mathlib.Core.Path.{refl}
use borrow.Author.Rules.{rules}
use Rattle.growth.specs.Growth.{growth_of}
use Rattle.growth.proofs.growth_of.Goals as goal

pub returns : goal.returns
unfolding growth_of
returns c = (refl, search rules)
