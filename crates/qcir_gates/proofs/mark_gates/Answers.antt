-- `qcir_gates::mark_gates` meets its contract. The invariant: the first definitions from token i on are marked.
-- Assumes nothing.
use native.Mathlib.Omega.{arith}
use Rattle.qcir_gates.proofs.Passes.{marked_none, marked_more, marked_all}
use Rattle.qcir_gates.proofs.mark_gates.Goals as goal

pub loop-i-init : goal.loop-i-init
loop-i-init c =
    let a = c.args in
    marked_none a.tokens.now.roles.now a.tokens.now.numbers.now a.tokens.now.count a.gates.now c.requires.gates_len c.requires.by_index

pub loop-i-preserved : goal.loop-i-preserved
loop-i-preserved c =
    let a = c.args in
    marked_more a.tokens.now.roles.now a.tokens.now.numbers.now a.tokens.now.count c.loop-i.gates _ c.loop-i.i (omega arith) (omega arith) c.loop-i.invariant c.mark_gate.auto.gates c.mark_gate.ensures

pub returns : goal.returns
returns c =
    let l = c.loop-i in
    let a = c.args in
    marked_all a.tokens.now.roles.now a.tokens.now.numbers.now a.tokens.now.count _ l.i (omega arith) l.invariant
