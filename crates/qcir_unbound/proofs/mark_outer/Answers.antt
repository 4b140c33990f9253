-- `qcir_unbound::mark_outer` meets its contract. The invariant: the entries before token i are marked.
-- Assumes nothing.
use mathlib.Core.Path.{◌≡◌, sym, ◌∙◌}
use native.Mathlib.Omega.{arith}
use Rattle.qcir_unbound.proofs.Marks.{outer_stop, outer_end, marking_start, marking_next, marking_done}
use Rattle.qcir_unbound.proofs.mark_outer.Goals as goal

pub loop-i-init : goal.loop-i-init
loop-i-init c =
    let a = c.args in
    marking_start a.tokens.now.roles.now a.tokens.now.numbers.now a.tokens.now.count a.marks.now c.requires.marks_len c.requires.by_index

pub returns-then-not-is_outer : goal.returns-then-not-is_outer
returns-then-not-is_outer c =
    let a = c.args in
    let l = c.loop-i in
    marking_done a.tokens.now.roles.now a.tokens.now.numbers.now a.tokens.now.count l.marks l.i
    (outer_stop a.tokens.now.roles.now a.tokens.now.numbers.now a.tokens.now.count l.i c.loop-i-test.true (sym c.is_outer.ensures ∙ c.if-not-is_outer.true))
    l.invariant

pub loop-i-preserved : goal.loop-i-preserved
loop-i-preserved c =
    let a = c.args in
    let l = c.loop-i in
    marking_next a.tokens.now.roles.now a.tokens.now.numbers.now a.tokens.now.count l.marks l.i c.loop-i-test.true (omega arith) (sym c.is_outer.ensures ∙ c.if-not-is_outer.false) l.invariant

pub returns : goal.returns
returns c =
    let a = c.args in
    let l = c.loop-i in
    let all : l.i ≡ a.tokens.now.count = omega arith in
    rw all at (marking_done a.tokens.now.roles.now a.tokens.now.numbers.now a.tokens.now.count l.marks l.i
    (outer_end a.tokens.now.roles.now a.tokens.now.numbers.now a.tokens.now.count l.i c.loop-i-test.false)
    l.invariant)
