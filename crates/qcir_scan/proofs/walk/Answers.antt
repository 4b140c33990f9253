-- `qcir_scan::walk` meets its contract. The invariant: variables and arrays hold the state after the bytes so far, which is not dead.
-- Assumes nothing.
use mathlib.Core.Path.{sym, ◌∙◌}
use native.Mathlib.Omega.{arith}
use Rattle.qcir_scan.proofs.Scans.{holds_start, dead_misspelled, end_spelled, end_misspelled}
use Rattle.qcir_scan.proofs.walk.Goals as goal

pub loop-q-init : goal.loop-q-init
loop-q-init c =
    let a = c.args in
    (holds_start a.text.now a.roles.now a.numbers.now a.positions.now a.at c.requires.at_value.0 c.requires.at_value.1 c.requires.wide, omega arith)

pub returns-then-q-eq-DEAD : goal.returns-then-q-eq-DEAD
returns-then-q-eq-DEAD c = dead_misspelled c.args.text.now _ _ _ c.advance-q.result c.advance-q.ensures.0 c.requires.text_len_bound (omega (arith, c.advance-q.ensures.1)) c.if-q-eq-DEAD.true

pub returns-then-not-is_done : goal.returns-then-not-is_done
returns-then-not-is_done c =
    let last = c.loop-q in
    end_misspelled c.args.text.now _ _ _ last.q last.invariant.0 c.requires.text_len_bound last.invariant.1 c.loop-q-test.false (sym c.is_done.ensures ∙ c.if-not-is_done.true)

pub returns : goal.returns
returns c =
    let last = c.loop-q in
    end_spelled c.args.text.now _ _ _ last.q last.invariant.0 c.requires.text_len_bound last.invariant.1 c.loop-q-test.false (sym c.is_done.ensures ∙ c.if-not-is_done.false)
