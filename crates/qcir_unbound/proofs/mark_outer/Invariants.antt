-- `qcir_unbound::mark_outer` meets its contract. The invariant: the entries before token i are marked.
-- Assumes nothing.
use Rattle.qcir_unbound.proofs.Marks.{Marking}
use Rattle.qcir_unbound.proofs.mark_outer.Given as goal

abbrev pub invariant-loop-i : goal.invariant-loop-i
invariant-loop-i l = Marking l.tokens.roles.now l.tokens.numbers.now l.tokens.count l.marks l.i
