-- `qcir_marks::mark_two` meets its contract.
-- Assumes nothing.
use Rattle.qcir_marks.proofs.Steps.{operands_both}
use Rattle.qcir_marks.proofs.mark_two.Goals as goal

pub returns : goal.returns
returns c = operands_both c.args.marks.now c.args.first c.args.second c.requires.0 c.requires.1
