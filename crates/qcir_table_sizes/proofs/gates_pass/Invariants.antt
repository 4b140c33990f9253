-- `qcir_table_sizes::gates_pass` meets its contract. The invariant: what is left leads to the whole.
-- Assumes nothing.
use Rattle.qcir_table_sizes.proofs.Passes.{Left}
use Rattle.qcir_table_sizes.proofs.gates_pass.Given as goal

abbrev pub invariant-loop-i : goal.invariant-loop-i
invariant-loop-i l = Left l.tokens.roles.now l.tokens.numbers.now l.tokens.count l.gates l.from l.i l.s
