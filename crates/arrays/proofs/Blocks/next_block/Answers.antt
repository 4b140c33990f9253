-- `arrays::Blocks::next_block` meets its contract.
-- Assumes nothing.
use native.Mathlib.Omega.{arith}
use Rattle.arrays.proofs.Chains.{link_block, link_blocks}
use Rattle.arrays.proofs.Nodes.{table_few}
use Rattle.arrays.proofs.Blocks.next_block.Goals as goal

pub offset_bounds-self-i : goal.offset_bounds-self-i
offset_bounds-self-i c = omega (arith, table_few _ _ c.args.self.now.started.checked)

pub bounds-self-i : goal.bounds-self-i
bounds-self-i c = omega (arith, table_few _ _ c.args.self.now.started.checked)

pub returns-clause-block : goal.returns-clause-block
returns-clause-block c = link_block _ _ _ _ (c.args.self.now.chained.chained.next_is _ c.requires.below c.requires.is_inner) _ c.checked_sub.ensures

pub returns-clause-blocks : goal.returns-clause-blocks
returns-clause-blocks c = link_blocks _ _ _ _ (c.args.self.now.chained.chained.next_is _ c.requires.below c.requires.is_inner) _ c.checked_sub.ensures
