-- `qcir_table_sizes::outer_pass` meets its contract. The invariant: what is left leads to the whole.
-- Assumes nothing.
use native.Mathlib.Omega.{arith}
use Rattle.qcir_table_sizes.proofs.Passes.{outer_start, outer_more, outer_none, small_room}
use Rattle.qcir_table_sizes.proofs.outer_pass.Goals as goal

pub loop-i-init : goal.loop-i-init
loop-i-init c = outer_start c.args.roles.now _ _ c.requires.2

pub add_outer-s-requires : goal.add_outer-s-requires
add_outer-s-requires c =
    let l = c.loop-i in
    small_room _ _ (omega arith) l.invariant.small

pub loop-i-preserved : goal.loop-i-preserved
loop-i-preserved c =
    let l = c.loop-i in
    let a = c.args in
    rw c.add_outer-s.ensures (outer_more a.roles.now a.end a.inner l.i l.s (omega arith) (omega arith) l.invariant)

pub returns : goal.returns
returns c =
    let l = c.loop-i in
    let a = c.args in
    outer_none a.roles.now a.end a.inner l.i l.s (omega arith) l.invariant
