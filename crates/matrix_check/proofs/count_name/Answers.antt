-- `matrix_check::count_name` meets its contract: one store counts one name.
-- Assumes nothing.
use Rattle.matrix_check.proofs.Nodes.{tally_one}
use Rattle.matrix_check.proofs.count_name.Goals as goal

pub returns : goal.returns
returns c = λ f t. tally_one c.args.named.now c.args.x _ f c.requires t (c.one_more.ensures (f c.args.x) (t c.args.x))
