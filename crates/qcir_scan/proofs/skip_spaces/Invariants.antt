-- `qcir_scan::skip_spaces` meets its contract. The invariant: whatever arrays hold the state at the start hold it after the bytes so far.
-- Assumes nothing.
use mathlib.Core.List.{List}
use Prim.Native.Nat.{ℕ}
use Rattle.qcir_scan.specs.Held.{Holds}
use Rattle.qcir_scan.proofs.skip_spaces.Given as goal

abbrev pub invariant-loop-at : goal.invariant-loop-at
invariant-loop-at l = (rs ns ps : List ℕ) → Holds l.text rs ns ps l.q → Holds l.text rs ns ps (record { at = l.at; place = l.q.place; number = l.q.number; begin = l.q.begin; count = l.q.count })
