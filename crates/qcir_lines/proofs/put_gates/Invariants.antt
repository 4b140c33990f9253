-- `qcir_lines::put_gates` meets its contract. The invariant: the lines of the nodes below i are put, 31 bytes each at most.
-- Assumes nothing.
use Prim.Native.Nat.{◌+◌, ◌*◌, ◌≤◌}
use Rattle.texts.specs.Put.{Put}
use Rattle.qcir_lines.specs.Lines.{gates_text}
use Rattle.qcir_lines.proofs.put_gates.Given as goal

abbrev pub invariant-loop-i : goal.invariant-loop-i
invariant-loop-i l = (l.next ≤ l.at + 31 * l.i) × Put l.initial.text l.at (gates_text l.nodes l.literals l.i) l.text l.next
