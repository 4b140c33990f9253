-- `qdimacs_numbers::flag_free` meets its contract. The invariant: the nodes below k are done.
-- Assumes nothing.
use mathlib.Core.List.{[]}
use Rattle.formula.specs.Words.{table_of}
use Rattle.qdimacs_numbers.specs.Numbering.{FlaggedBelow}
use Rattle.qdimacs_numbers.proofs.flag_free.Given as goal

abbrev pub invariant-loop-k : goal.invariant-loop-k
invariant-loop-k l = FlaggedBelow (table_of l.nodes []) l.initial.names l.k l.names l.highest
