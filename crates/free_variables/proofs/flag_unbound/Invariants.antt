-- `free_variables::flag_unbound` meets its contract. The invariant: the nodes passed are flagged.
-- Assumes nothing.
use Rattle.formula.specs.Words.{table_of}
use Rattle.free_variables.specs.Steps.{Flagged}
use Rattle.free_variables.proofs.flag_unbound.Given as goal

abbrev pub invariant-loop-i : goal.invariant-loop-i
invariant-loop-i l = Flagged (table_of l.words l.list) l.flags l.i l.found
