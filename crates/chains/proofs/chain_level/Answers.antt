-- `chains::chain_level` meets its contract. A node that is no block is the law `plain_chained`, a block `inner_chained`.
-- Assumes nothing.
use mathlib.Core.Path.{sym, ◌∙◌}
use native.Mathlib.Omega.{arith}
use Rattle.arrays.proofs.Nodes.{nodes_few, block_read}
use Rattle.chains.proofs.Chaining.{level_index, inner_chained, plain_chained}
use Rattle.chains.proofs.chain_level.Goals as goal

pub returns-then-not-is_block_kind : goal.returns-then-not-is_block_kind
returns-then-not-is_block_kind c =
    plain_chained c.args.words.now c.args.list.now c.requires.list_value c.args.i (omega (arith, c.requires.i_bound)) _ _
    (sym (c.is_block_kind.ensures ∙ block_read c.args.words.now c.args.list.now c.args.i _ c.node_at-node.ensures) ∙ c.if-not-is_block_kind.true)
    c.requires.levels_from

pub bounds-levels-i : goal.bounds-levels-i
bounds-levels-i c = omega (arith, nodes_few c.args.words.now c.args.list.now c.requires.list_value)

pub overflow_cast-level : goal.overflow_cast-level
overflow_cast-level c = omega (arith, level_index c.args.words.now c.args.list.now c.requires.list_value c.args.i (omega (arith, c.requires.i_bound)) _ c.requires.node_levels)

pub put_first-requires : goal.put_first-requires
put_first-requires c =
    let l = level_index c.args.words.now c.args.list.now c.requires.list_value c.args.i (omega (arith, c.requires.i_bound)) _ c.requires.node_levels in
    let n = nodes_few c.args.words.now c.args.list.now c.requires.list_value in
    (omega (arith, l, c.requires.levels_len.1), omega (arith, n, c.requires.levels_len.2), omega (arith, n))

pub returns : goal.returns
returns c =
    let f = c.put_first.ensures in
    inner_chained c.args.words.now c.args.list.now c.requires.list_value c.args.i (omega (arith, c.requires.i_bound)) _ c.requires.node_levels _ _ _ _
    (sym (c.is_block_kind.ensures ∙ block_read c.args.words.now c.args.list.now c.args.i _ c.node_at-node.ensures) ∙ c.if-not-is_block_kind.false)
    c.requires.i_bound c.requires.levels_len.1 c.requires.levels_len.2 c.requires.levels_from f.firsts_after f.nexts_after
