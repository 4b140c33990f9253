-- `qdimacs_prefix::put_numbers` meets its contract. The invariant: the numbers below x are put.
-- Assumes nothing.
use Prim.Native.Nat.{◌+◌, ◌*◌, ◌-◌, ◌≤◌}
use Rattle.lists.specs.Parts.{numbers}
use Rattle.qdimacs_words.specs.Words.{Loose}
use Rattle.qdimacs_prefix.specs.Lines.{names_text}
use Rattle.qdimacs_prefix.proofs.put_numbers.Given as goal

abbrev pub invariant-loop-x : goal.invariant-loop-x
invariant-loop-x l =
    record {
      bound : l.next ≤ l.at + 7 * (l.x - l.first);
      put : Loose l.initial.text l.at (names_text (numbers l.first (l.x - l.first))) l.text l.next;
    }
