-- `qcir_lines::put_gates` meets its contract. The invariant: the lines of the nodes below i are put, 31 bytes each at most.
-- Assumes nothing.
use native.Mathlib.Omega.{arith}
use Rattle.qcir_lines.proofs.Gates.{gates_none, gates_next}
use Rattle.qcir_lines.proofs.put_gates.Goals as goal

pub loop-i-init : goal.loop-i-init
loop-i-init c = (omega arith, gates_none _ _ _ _)

pub loop-i-preserved : goal.loop-i-preserved
loop-i-preserved c =
    let l = c.loop-i in
    (omega (arith, c.put_gate-next.ensures.upper_bound), gates_next c.args.nodes.now c.args.literals.now l.i l.invariant.1 c.put_gate-next.ensures.put)
