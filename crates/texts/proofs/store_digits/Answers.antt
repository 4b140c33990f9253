-- `texts::store_digits` meets its contract. The loop's invariant: the digits after those of `left` are stored.
-- Assumes nothing.
use native.Mathlib.Omega.{arith}
use Rattle.texts.proofs.Stores.{back_start, back_room, back_length, back_step, back_end}
use Rattle.texts.proofs.store_digits.Goals as goal

pub loop-left-init : goal.loop-left-init
loop-left-init c = back_start _ _ _

pub overflow_sub-from : goal.overflow_sub-from
overflow_sub-from c =
    let p = c.requires in
    (back_room _ _ _ _ _ _ c.loop-left.invariant p.0 p.1).0

pub bounds-text-from : goal.bounds-text-from
bounds-text-from c =
    let p = c.requires in
    let b = c.loop-left.invariant in
    omega (arith, back_room _ _ _ _ _ _ b p.0 p.1, back_length _ _ _ _ _ _ b p.0 p.1)

pub loop-left-preserved : goal.loop-left-preserved
loop-left-preserved c =
    let p = c.requires in
    rw c.digit.ensures (back_step _ _ _ _ _ _ c.loop-left.invariant p.0 p.1 (omega arith))

pub overflow_sub-text : goal.overflow_sub-text
overflow_sub-text c =
    let p = c.requires in
    (back_room _ _ _ _ _ _ c.loop-left.invariant p.0 p.1).0

pub bounds-text-from-2 : goal.bounds-text-from-2
bounds-text-from-2 c =
    let p = c.requires in
    let b = c.loop-left.invariant in
    omega (arith, back_room _ _ _ _ _ _ b p.0 p.1, back_length _ _ _ _ _ _ b p.0 p.1)

pub returns : goal.returns
returns c =
    let p = c.requires in
    rw c.digit-2.ensures (back_end _ _ _ _ _ _ c.loop-left.invariant p.0 p.1 (omega arith))
