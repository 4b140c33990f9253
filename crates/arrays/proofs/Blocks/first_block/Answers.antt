-- `arrays::Blocks::first_block` meets its contract.
-- Assumes nothing.
use mathlib.Core.Path.{◌∙◌}
use native.Mathlib.Omega.{arith}
use Rattle.arrays.proofs.Chains.{link_block, link_blocks, blocks_from-all}
use Rattle.arrays.proofs.Depth.{level_fits}
use Rattle.arrays.proofs.Blocks.first_block.Goals as goal

pub offset_bounds-self-level : goal.offset_bounds-self-level
offset_bounds-self-level c = omega (arith, level_fits _ _ c.args.self.now.started.checked _ c.requires)

pub bounds-self-level : goal.bounds-self-level
bounds-self-level c = let b = c.args.self.now in omega (arith, b.chained.firsts_long, level_fits _ _ b.started.checked _ c.requires)

pub returns-clause-block : goal.returns-clause-block
returns-clause-block c =
    let b = c.args.self.now in
    link_block _ _ 0 _ (b.chained.chained.first_is _ (level_fits _ _ b.started.checked _ c.requires).0) _ c.checked_sub.ensures

pub returns-clause-blocks : goal.returns-clause-blocks
returns-clause-blocks c =
    let b = c.args.self.now in
    link_blocks _ _ 0 _ (b.chained.chained.first_is _ (level_fits _ _ b.started.checked _ c.requires).0) _ c.checked_sub.ensures ∙ blocks_from-all _ _
