-- `lift_kept::lift_as` meets its contract.
-- Assumes nothing.
use Rattle.lift_kept.proofs.Ways.{as_lifted, as_kept}
use Rattle.lift_kept.proofs.lift_as.Goals as goal

pub returns-in-Lifted : goal.returns-in-Lifted
returns-in-Lifted c = as_lifted c.args.way c.args.words.now c.args.list.now _ _ c.in-Lifted.is c.lift_accepted.ensures

pub returns-in-Kept : goal.returns-in-Kept
returns-in-Kept c = as_kept c.args.way c.args.words.now c.args.list.now _ _ c.in-Kept.is c.lift_accepted-in-Kept.ensures
