-- `qdimacs_prefix::put_prefix` meets its contract. The invariant: the first j blocks are put.
-- Assumes nothing.
use Prim.Native.Nat.{◌+◌, ◌*◌, ◌≤◌}
use lib.ListN.{length}
use Rattle.formula.specs.Form.{blocks_from}
use Rattle.form_check.specs.Verdict.{names_before}
use Rattle.qdimacs_prefix.specs.Lines.{line_kind, run_text, run_kind, Goes}
use Rattle.qdimacs_prefix.proofs.put_prefix.Given as goal

abbrev pub invariant-loop-j : goal.invariant-loop-j
invariant-loop-j l =
    record {
      bound : l.next.at ≤ l.initial.next.at + 11 * length (names_before l.prefix l.variables l.j);
      goes : Goes l.initial.text l.initial.next (run_text (line_kind l.initial.next) (blocks_from l.prefix l.variables 0 l.j)) (run_kind (line_kind l.initial.next) (blocks_from l.prefix l.variables 0 l.j)) l.text l.next;
    }
