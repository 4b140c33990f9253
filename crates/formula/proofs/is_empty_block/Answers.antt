-- `formula::is_empty_block` meets its contract.
-- Assumes nothing.
use Rattle.formula.specs.Words.{is_empty_block}
use Rattle.formula.proofs.is_empty_block.Goals as goal

pub returns : goal.returns
unfolding is_empty_block
returns c = rw c.is_block_kind.ensures
