-- `qcir_lines::put_free` meets its contract. The invariant: the names below x that have the flag 2 are put.
-- Assumes nothing.
use Prim.Native.Nat.{◌+◌, ◌*◌, ◌≤◌}
use Rattle.texts.specs.Put.{Put}
use Rattle.qcir_lines.proofs.Free.{open_line}
use Rattle.qcir_lines.proofs.put_free.Given as goal

abbrev pub invariant-loop-x : goal.invariant-loop-x
invariant-loop-x l = (l.next ≤ l.at + 11 * l.x) × Put l.initial.text l.at (open_line l.names l.x) l.text l.next
