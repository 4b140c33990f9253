-- `qcir_gates::lowest_not_once` meets its contract. The invariant: the lowest from token i on is found.
-- Assumes nothing.
use native.Mathlib.Omega.{arith}
use Rattle.qcir_gates.proofs.Passes.{misused_none, misused_more, misused_all}
use Rattle.qcir_gates.proofs.lowest_not_once.Goals as goal

pub loop-i-init : goal.loop-i-init
loop-i-init c =
    let a = c.args in
    misused_none a.tokens.now.roles.now a.tokens.now.numbers.now a.tokens.now.count a.uses.now

pub loop-i-preserved : goal.loop-i-preserved
loop-i-preserved c =
    let a = c.args in
    misused_more a.tokens.now.roles.now a.tokens.now.numbers.now a.tokens.now.count a.uses.now c.loop-i.lowest _ c.loop-i.i (omega arith) (omega arith) c.loop-i.invariant c.with_token-lowest.ensures

pub returns : goal.returns
returns c =
    λ ps. let l = c.loop-i in
    let a = c.args in
    misused_all a.tokens.now.roles.now a.tokens.now.numbers.now a.tokens.now.count a.uses.now l.lowest l.i (omega arith) l.invariant ps
