-- `chains::highest_entry` meets its contract. The loop's invariant: the highest so far is that of the entries passed.
-- Assumes nothing.
use mathlib.Core.Path.{refl}
use borrow.Author.Rules.{rules}
use Rattle.lists.specs.Members.{maximum}
use Rattle.chains.proofs.Highest.{maximum_next, maximum_all}
use Rattle.chains.proofs.highest_entry.Goals as goal

pub loop-x-init : goal.loop-x-init
unfolding maximum
loop-x-init c = refl

pub loop-x-preserved : goal.loop-x-preserved
loop-x-preserved c = maximum_next _ c.loop-x.x-index c.loop-x-test.true c.loop-x.invariant (search rules)

pub returns : goal.returns
returns c = maximum_all c.args.list.now c.args.first c.args.count c.loop-x.x-index c.loop-x-test.false c.loop-x.invariant
