-- `qcir_unbound::all_marked` meets its contract. The invariant: every variable used before token i is marked.
-- Assumes nothing.
use Rattle.qcir_unbound.specs.Outer.{AllMarked}
use Rattle.qcir_unbound.proofs.all_marked.Given as goal

abbrev pub invariant-loop-i : goal.invariant-loop-i
invariant-loop-i l = AllMarked l.tokens.roles.now l.tokens.numbers.now l.gates l.marks l.first l.i
