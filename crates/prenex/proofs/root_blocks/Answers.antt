-- `prenex::root_blocks` meets its contract.
-- Assumes nothing.
use mathlib.Core.Path.{◌∙◌, sym}
use Rattle.lists.specs.Choice.{pick_yes, pick_no}
use Rattle.arrays.proofs.Nodes.{block_read}
use Rattle.prenex.proofs.Measured.{count_some}
use native.Mathlib.Omega.{arith}
use Rattle.prenex.proofs.root_blocks.Goals as goal

pub overflow_sub-words : goal.overflow_sub-words
overflow_sub-words c = omega (arith, count_some _ _ c.requires)

pub node_at-root-requires : goal.node_at-root-requires
node_at-root-requires c = omega (arith, count_some _ _ c.requires)

pub returns-then-is_block_kind : goal.returns-then-is_block_kind
returns-then-is_block_kind c =
    let k = c.is_block_kind.ensures in
    sym (pick_yes _ 1 0 (sym (k ∙ block_read c.args.words.now c.args.list.now _ c.node_at-root.result c.node_at-root.ensures) ∙ c.if-is_block_kind.true))

pub returns : goal.returns
returns c =
    let k = c.is_block_kind.ensures in
    sym (pick_no _ 1 0 (sym (k ∙ block_read c.args.words.now c.args.list.now _ c.node_at-root.result c.node_at-root.ensures) ∙ c.if-is_block_kind.false))
