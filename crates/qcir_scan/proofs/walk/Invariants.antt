-- `qcir_scan::walk` meets its contract. The invariant: variables and arrays hold the state after the bytes so far, which is not dead.
-- Assumes nothing.
use Prim.Native.Nat.{◌-◌, ◌<◌}
use lib.ListN.{length}
use Rattle.qcir_scan.specs.Held.{Holds}
use Rattle.qcir_scan.proofs.walk.Given as goal

abbrev pub invariant-loop-q : goal.invariant-loop-q
invariant-loop-q l = Holds l.text l.roles l.numbers l.positions l.q × (0 < l.q.place)

abbrev pub decreases-loop-q : goal.decreases-loop-q
decreases-loop-q l = length l.text - l.q.at
