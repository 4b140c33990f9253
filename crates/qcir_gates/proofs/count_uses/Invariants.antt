-- `qcir_gates::count_uses` meets its contract. The invariant: the uses from token i on are counted.
-- Assumes nothing.
use Rattle.qcir_gates.proofs.Passes.{Counted}
use Rattle.qcir_gates.proofs.count_uses.Given as goal

abbrev pub invariant-loop-i : goal.invariant-loop-i
invariant-loop-i l = Counted l.tokens.roles.now l.tokens.numbers.now l.tokens.count l.uses l.i
