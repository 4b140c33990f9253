-- `qcir_table_sizes::outer_pass` meets its contract. The invariant: what is left leads to the whole.
-- Assumes nothing.
use Rattle.qcir_table_sizes.proofs.Passes.{OuterLeft}
use Rattle.qcir_table_sizes.proofs.outer_pass.Given as goal

abbrev pub invariant-loop-i : goal.invariant-loop-i
invariant-loop-i l = OuterLeft l.roles l.end l.initial.s l.i l.s
