-- `prefix_writer::count_at` meets its contract.
-- Assumes nothing.
use mathlib.Core.Path.{◌∙◌, sym, ap}
use Rattle.formula.specs.Words.{is_block_kind}
use Rattle.formula.specs.declared.NodeWords.{NodeWords}
use Rattle.acceptance.proofs.Accepted.{count_block, count_none}
use Rattle.prefix_writer.proofs.count_at.Goals as goal

pub returns-then-is_block_kind : goal.returns-then-is_block_kind
returns-then-is_block_kind c =
    let node = c.node_at-node.ensures in
    let k = c.is_block_kind.ensures in
    ap (λ (w : NodeWords). w.b) node ∙ sym (count_block _ _ (ap (λ (w : NodeWords). is_block_kind w.kind) (sym node) ∙ sym k ∙ c.if-is_block_kind.true))

pub returns : goal.returns
returns c =
    let node = c.node_at-node.ensures in
    let k = c.is_block_kind.ensures in
    sym (count_none _ _ (ap (λ (w : NodeWords). is_block_kind w.kind) (sym node) ∙ sym k ∙ c.if-is_block_kind.false))
