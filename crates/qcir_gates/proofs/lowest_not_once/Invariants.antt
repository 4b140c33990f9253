-- `qcir_gates::lowest_not_once` meets its contract. The invariant: the lowest from token i on is found.
-- Assumes nothing.
use Rattle.qcir_gates.proofs.Passes.{Misused}
use Rattle.qcir_gates.proofs.lowest_not_once.Given as goal

abbrev pub invariant-loop-i : goal.invariant-loop-i
invariant-loop-i l = Misused l.tokens.roles.now l.tokens.numbers.now l.tokens.count l.uses l.lowest l.i
