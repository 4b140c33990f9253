-- `qcir_gates::mark_gates` meets its contract. The invariant: the first definitions from token i on are marked.
-- Assumes nothing.
use Rattle.qcir_gates.proofs.Passes.{Marked}
use Rattle.qcir_gates.proofs.mark_gates.Given as goal

abbrev pub invariant-loop-i : goal.invariant-loop-i
invariant-loop-i l = Marked l.tokens.roles.now l.tokens.numbers.now l.tokens.count l.gates l.i
