-- `qcir_header::header_end` meets its contract. The invariant: the text has the header's bytes so far, and its end is that of what comes from here on.
-- Assumes nothing.
use mathlib.Core.Path.{◌≡◌}
use Prim.Native.Nat.{◌+◌}
use native.Mathlib.Omega.{arith}
use lib.ListN.{get_or}
use Rattle.qcir.specs.Spelling.{header}
use Rattle.qcir_header.specs.Header.{header_end}
use Rattle.qcir_header.proofs.Common.{common_ended, common_whole, common_differs, common_next}
use Rattle.qcir_header.proofs.header_end.Goals as goal
use Rattle.qcir_header.proofs.header_end.Goals.{then-text-at-via-then-text-at, then-text-at-via-else-text-at+then-text-at-2}

pub loop-i-init : goal.loop-i-init
unfolding header_end
loop-i-init c =
    let z : c.args.from + 0 ≡ c.args.from = omega arith in
    (omega arith, rw z)

pub returns-then-text-at : goal.returns-then-text-at
returns-then-text-at c =
    let text = c.args.text.now in
    let i = c.loop-i.i in
    let at = c.args.from + i in
    elim c.then-text-at.branch [
      | then-text-at-via-then-text-at w ↦ omega (arith, c.loop-i.invariant.1, common_ended header text i at w.if-text-at.true)
      | then-text-at-via-else-text-at+then-text-at-2 w ↦
          let other : get_or text at 0 ≡ get_or header i 0 → ⊥ = omega (arith, w.if-text-at-2.true) in
          omega (arith, c.loop-i.invariant.1, common_differs header text i at c.loop-i-test.true (omega (arith, w.if-text-at.false)) other)
    ]

pub loop-i-preserved : goal.loop-i-preserved
loop-i-preserved c =
    let text = c.args.text.now in
    let i = c.loop-i.i in
    let at = c.args.from + i in
    let same : get_or text at 0 ≡ get_or header i 0 = omega arith in
    let m : at + 1 ≡ c.args.from + (i + 1) = omega arith in
    let on = rw m at (common_next header text i at (omega arith) (omega arith) same) in
    (omega arith, omega (arith, on))

pub returns : goal.returns
returns c =
    omega (arith, c.loop-i.invariant.1, common_whole header c.args.text.now c.loop-i.i (c.args.from + c.loop-i.i) (omega arith))
