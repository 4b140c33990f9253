-- `qdimacs_prefix::put_names` meets its contract. The invariant: the first i names are put.
-- Assumes nothing.
use Prim.Native.Nat.{◌+◌, ◌*◌, ◌≤◌}
use lib.ListN.{take}
use Rattle.qdimacs_words.specs.Words.{Loose}
use Rattle.qdimacs_prefix.specs.Lines.{names_text}
use Rattle.qdimacs_prefix.proofs.put_names.Given as goal

abbrev pub invariant-loop-name : goal.invariant-loop-name
invariant-loop-name l =
    record {
      bound : l.next ≤ l.at + 7 * l.name-index;
      put : Loose l.initial.text l.at (names_text (take l.name-index l.names)) l.text l.next;
    }
