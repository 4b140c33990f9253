-- `qcir_marks::mark_down` meets its contract. The invariant: the nodes from i up are done.
-- Assumes nothing.
use mathlib.Core.List.{[]}
use Rattle.formula.specs.Words.{table_of}
use Rattle.qcir_marks.specs.Marks.{MarkedFrom}
use Rattle.qcir_marks.proofs.mark_down.Given as goal

abbrev pub invariant-loop-i : goal.invariant-loop-i
invariant-loop-i l = MarkedFrom (table_of l.nodes []) l.initial.names l.i l.marks l.names l.highest
