-- `name_lines::check_names` meets its contract. The loop's invariant: the names counted and those left are all names.
-- Assumes nothing.
use Prim.Native.Nat.{◌-◌}
use lib.ListN.{length}
use Rattle.name_lines.proofs.Walk.{Walked}
use Rattle.name_lines.proofs.check_names.Given as goal

abbrev pub invariant-loop-name : goal.invariant-loop-name
invariant-loop-name l = Walked l.text l.count l.long l.name

abbrev pub decreases-loop-name : goal.decreases-loop-name
decreases-loop-name l = length l.text - l.name.from
