use native.Mathlib.Omega.{arith}
use Rattle.name_lines.proofs.Kept.{read_none, read_more, read_all}
use Rattle.name_lines.proofs.read_on.Goals as goal

pub loop-byte-init : goal.loop-byte-init
loop-byte-init c = λ text h. read_none text c.args.part.now _ _ h

pub loop-byte-preserved : goal.loop-byte-preserved
loop-byte-preserved c =
    let turn = c.loop-byte in
    λ text h. read_more text _ turn.byte-index _ _ _ _ c.loop-byte-test.true (turn.invariant text h) c.step-s.ensures

pub returns : goal.returns
returns c =
    let turn = c.loop-byte in
    λ text h. read_all text _ turn.byte-index _ _ (omega (arith, c.loop-byte-test.false)) (turn.invariant text h)
