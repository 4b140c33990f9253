-- `qdimacs_prefix::put_free` meets its contract. The invariant: the names below x that have the flag 2 are put.
-- Assumes nothing.
use Prim.Native.Nat.{◌+◌, ◌*◌, ◌≤◌}
use Rattle.name_flags.specs.Flags.{flagged_below}
use Rattle.qdimacs_prefix.specs.Lines.{line_kind, added_text, kind_after, Goes}
use Rattle.qdimacs_prefix.proofs.put_free.Given as goal

abbrev pub invariant-loop-x : goal.invariant-loop-x
invariant-loop-x l =
    record {
      bound : l.next.at ≤ l.initial.next.at + 11 * l.x;
      goes : Goes l.initial.text l.initial.next (added_text (line_kind l.initial.next) 5 (flagged_below l.names l.x)) (kind_after (line_kind l.initial.next) 5 (flagged_below l.names l.x)) l.text l.next;
    }
