-- `qcir_table::write_lines` meets its contract. The loop's invariant: what the tokens from token i on add is written.
-- Assumes nothing.
use Rattle.qcir_table.proofs.Lines.{Reached}
use Rattle.qcir_table.proofs.write_lines.Given as goal

abbrev pub invariant-loop-i : goal.invariant-loop-i
invariant-loop-i l = Reached l.tokens.roles.now l.tokens.numbers.now l.initial.p l.outer l.i l.end l.initial.words l.initial.list l.words l.list l.p
