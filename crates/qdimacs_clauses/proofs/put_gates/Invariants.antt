-- `qdimacs_clauses::put_gates` meets its contract. The invariant: the lines of the nodes below i are put, 104 bytes each at most.
-- Assumes nothing.
use mathlib.Core.List.{[]}
use Prim.Native.Nat.{◌+◌, ◌*◌, ◌≤◌}
use Rattle.formula.specs.Words.{table_of}
use Rattle.qdimacs_words.specs.Words.{Loose}
use Rattle.qdimacs_clauses.specs.Held.{WordsHeld, lines_below}
use Rattle.qdimacs_clauses.proofs.put_gates.Given as goal

abbrev pub invariant-loop-i : goal.invariant-loop-i
invariant-loop-i l =
    record {
      bound : l.next ≤ l.at + 104 * l.i;
      put : (held : WordsHeld (table_of l.nodes []) l.words) → Loose l.initial.text l.at (lines_below (table_of l.nodes []) held.variables l.i) l.text l.next;
    }
