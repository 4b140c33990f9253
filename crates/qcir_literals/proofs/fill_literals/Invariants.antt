-- `qcir_literals::fill_literals` meets its contract. The invariant: the nodes below i have their literals.
-- Assumes nothing.
use mathlib.Core.List.{[]}
use Rattle.formula.specs.Words.{table_of}
use Rattle.qcir_literals.specs.Literals.{FilledTo}
use Rattle.qcir_literals.proofs.fill_literals.Given as goal

abbrev pub invariant-loop-i : goal.invariant-loop-i
invariant-loop-i l = FilledTo (table_of l.nodes []) l.first l.i l.literals l.gate
