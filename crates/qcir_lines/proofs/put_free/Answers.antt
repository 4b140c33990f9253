-- `qcir_lines::put_free` meets its contract. The invariant: the names below x that have the flag 2 are put.
-- Assumes nothing.
use native.Mathlib.Omega.{arith}
use mathlib.Core.Path.{◌≡◌}
use Prim.Native.Nat.{suc, ◌+◌, ◌<◌}
use lib.Dec.{eqb}
use borrow.Author.Tests.{eqb-true, eqb-false}
use Rattle.std.proofs.lemmas.List.{get_or-take, length-take-le}
use Rattle.qcir_lines.proofs.Free.{free_none, free_name, free_end, free_no_line}
use Rattle.qcir_lines.proofs.put_free.Goals as goal

pub loop-x-init : goal.loop-x-init
loop-x-init c = (omega arith, free_none _ _ _)

pub loop-x-preserved : goal.loop-x-preserved
loop-x-preserved c =
    let l = c.loop-x in
    let n = length-take-le (c.args.highest + 1) c.args.names.now (omega arith) in
    let h : l.x < c.args.highest + 1 = omega arith in
    (omega (arith, c.put_free_name-next.ensures.upper_bound), free_name c.args.names.now l.x (eqb l.next c.args.at) l.invariant.1 (eqb-true l.next c.args.at) (eqb-false l.next c.args.at) (rw get_or-take at c.put_free_name-next.ensures.put))

pub returns-then-next-at : goal.returns-then-next-at
returns-then-next-at c =
    let l = c.loop-x in
    let n = length-take-le (c.args.highest + 1) c.args.names.now (omega arith) in
    let e : l.x ≡ suc c.args.highest = omega arith in
    free_no_line c.args.names.now (suc c.args.highest) (rw e at l.invariant.1) c.if-next-at.true

pub returns : goal.returns
returns c =
    let l = c.loop-x in
    let n = length-take-le (c.args.highest + 1) c.args.names.now (omega arith) in
    let e : l.x ≡ suc c.args.highest = omega arith in
    free_end c.args.names.now (suc c.args.highest) (rw e at l.invariant.1) c.if-next-at.false c.put_close.ensures.put
