-- `qcir_gates::count_uses` meets its contract. The invariant: the uses from token i on are counted.
-- Assumes nothing.
use native.Mathlib.Omega.{arith}
use Rattle.qcir_gates.proofs.Passes.{counted_none, counted_more, counted_all}
use Rattle.qcir_gates.proofs.count_uses.Goals as goal

pub loop-i-init : goal.loop-i-init
loop-i-init c =
    let a = c.args in
    counted_none a.tokens.now.roles.now a.tokens.now.numbers.now a.tokens.now.count a.uses.now c.requires.uses_len c.requires.by_index

pub loop-i-preserved : goal.loop-i-preserved
loop-i-preserved c =
    let a = c.args in
    counted_more a.tokens.now.roles.now a.tokens.now.numbers.now a.tokens.now.count c.loop-i.uses _ c.loop-i.i (omega arith) (omega arith) c.loop-i.invariant c.count_use.auto.uses c.count_use.ensures

pub returns : goal.returns
returns c =
    let l = c.loop-i in
    let a = c.args in
    counted_all a.tokens.now.roles.now a.tokens.now.numbers.now a.tokens.now.count _ l.i (omega arith) l.invariant
