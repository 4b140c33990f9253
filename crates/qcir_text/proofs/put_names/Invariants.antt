-- `qcir_text::put_names` meets its contract.
-- Assumes nothing.
use Prim.Native.Nat.{◌+◌, ◌*◌, ◌≤◌}
use Rattle.texts.specs.Put.{Put}
use Rattle.qcir_text.proofs.Texts.{further}
use Rattle.qcir_text.proofs.put_names.Given as goal

abbrev pub invariant-loop-x : goal.invariant-loop-x
invariant-loop-x l =
    (l.next ≤ l.at + 8 * (l.x-index + 1)) × Put l.initial.text l.initial.next (further l.names (l.x-index + 1)) l.text l.next
