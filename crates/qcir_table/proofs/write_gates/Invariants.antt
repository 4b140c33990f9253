-- `qcir_table::write_gates` meets its contract. The loop's invariant: what the tokens before token i add is stored.
-- Assumes nothing.
use Prim.Native.Nat.{◌-◌}
use Rattle.qcir_table.proofs.Gates.{Reached}
use Rattle.qcir_table.proofs.write_gates.Given as goal

abbrev pub invariant-loop-i : goal.invariant-loop-i
invariant-loop-i l = Reached l.tokens.roles.now l.tokens.numbers.now l.first (l.i - l.first) l.initial.words l.initial.list l.words l.list l.nodes l.p
