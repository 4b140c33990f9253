-- `qcir_table::copy_numbers` meets its contract. The loop's invariant: the first k numbers are copied.
-- Assumes nothing.
use native.Mathlib.Omega.{arith}
use lib.Seq.{take_all}
use Rattle.qcir_table.proofs.Copying.{copy_start, copy_next}
use Rattle.qcir_table.proofs.copy_numbers.Goals as goal

pub loop-k-init : goal.loop-k-init
loop-k-init c = copy_start c.args.list.now c.args.at c.args.numbers.now

pub loop-k-preserved : goal.loop-k-preserved
loop-k-preserved c =
    let v = c.loop-k in
    rw c.from.ensures (copy_next c.args.list.now v.list c.args.at v.k c.args.numbers.now c.loop-k-test.true (omega arith) v.invariant)

pub returns : goal.returns
returns c = rw (take_all c.loop-k.k c.args.numbers.now c.loop-k-test.false) at c.loop-k.invariant
