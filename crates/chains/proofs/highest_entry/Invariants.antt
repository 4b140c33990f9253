-- `chains::highest_entry` meets its contract. The loop's invariant: the highest so far is that of the entries passed.
-- Assumes nothing.
use mathlib.Core.Path.{◌≡◌}
use lib.ListN.{take}
use Rattle.lists.specs.Members.{maximum}
use Rattle.chains.proofs.highest_entry.Given as goal

abbrev pub invariant-loop-x : goal.invariant-loop-x
invariant-loop-x l = l.highest ≡ maximum (take l.x-index l.x-items)
