-- `qcir_marks::mark_written` meets its contract: there is a root, and it is marked first.
-- Assumes nothing.
use native.Mathlib.Omega.{arith}
use mathlib.Core.List.{[]}
use Prim.Native.Nat.{◌<◌}
use lib.ListN.{length-set}
use Rattle.formula.specs.Words.{node_count, table_of}
use Rattle.qcir_marks.proofs.Turns.{root_marked}
use Rattle.qcir_marks.proofs.mark_written.Goals as goal

pub overflow_sub-marks : goal.overflow_sub-marks
unfolding table_of
overflow_sub-marks c = let p : 0 < node_count c.args.nodes.now = c.requires.accepted_within.proper.tree.nonempty in omega arith

pub mark_down-requires-clause-marks_len : goal.mark_down-requires-clause-marks_len
unfolding table_of
mark_down-requires-clause-marks_len c =
    let l = c.requires.accepted_within.nodes_limit in
    (simp length-set c.requires.marks_len.0, root_marked (table_of c.args.nodes.now []) c.requires.accepted_within.proper.tree.nonempty c.args.marks.now (omega (arith, l, c.requires.accepted_within.proper.tree.nonempty, c.requires.marks_len.0)) c.requires.marks_len.1)
