-- `qcir_marks::mark_down` meets its contract. The invariant: the nodes from i up are done.
-- Assumes nothing.
use native.Mathlib.Omega.{arith}
use mathlib.Core.Path.{◌≡◌}
use mathlib.Core.List.{[]}
use Prim.Native.Nat.{suc, ◌-◌}
use Rattle.formula.specs.Words.{table_of}
use Rattle.qcir_marks.proofs.Turns.{marked_start, marked_next, marked_end}
use Rattle.qcir_marks.proofs.mark_down.Goals as goal

pub loop-i-init : goal.loop-i-init
unfolding table_of
loop-i-init c = rw c.requires.names_len.1 (marked_start (table_of c.args.nodes.now []) c.requires.accepted_within.proper.tree c.args.names.now c.args.marks.now c.requires.marks_len.1)

pub loop-i-preserved : goal.loop-i-preserved
unfolding table_of
loop-i-preserved c =
    let l = c.loop-i in
    let e : suc (l.i - 1) ≡ l.i = omega (arith, c.loop-i-test.true) in
    marked_next (table_of c.args.nodes.now []) c.requires.accepted_within.proper.tree c.args.names.now (l.i - 1) (omega (arith, l.auto.i, c.loop-i-test.true)) l.marks l.names l.highest _ _ _ (rw e l.invariant) c.mark_node-highest.ensures

pub returns : goal.returns
returns c =
    let z : c.loop-i.i ≡ 0 = omega (arith, c.loop-i-test.false) in
    marked_end (table_of c.args.nodes.now []) c.requires.accepted_within.proper.tree c.args.names.now _ _ _ (rw z at c.loop-i.invariant)
