-- `tree_check::count_name` meets its contract: one store adds one name.
-- Assumes nothing.
use Rattle.tree_check.proofs.Named.{name_more}
use Rattle.tree_check.proofs.count_name.Goals as goal

pub returns : goal.returns
returns c = name_more c.args.named.now _ c.requires.0
