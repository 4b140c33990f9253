-- `qdimacs_numbers::number_nodes` meets its contract. The invariant: the nodes below i have their variables.
-- Assumes nothing.
use mathlib.Core.List.{[]}
use Prim.Native.Nat.{suc, ◌+◌, ◌*◌, ◌≤◌}
use Rattle.formula.specs.Words.{table_of}
use Rattle.qdimacs_numbers.specs.Numbering.{NumberedBelow}
use Rattle.qdimacs_numbers.proofs.number_nodes.Given as goal

abbrev pub invariant-loop-i : goal.invariant-loop-i
invariant-loop-i l =
    record {
      bounds : (l.numbering.next ≤ 77824 + l.i) × (l.numbering.clauses ≤ suc (4 * l.i));
      numbered : NumberedBelow (table_of l.nodes []) l.first l.i l.words l.numbering;
    }
