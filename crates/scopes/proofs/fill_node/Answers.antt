-- `scopes::fill_node` meets its contract. A node that is no block is the laws `plain_filled` and `plain_counted`.
-- Assumes nothing.
use mathlib.Core.Path.{refl, sym, ◌∙◌}
use native.Mathlib.Omega.{arith}
use Rattle.lists.proofs.Members.{mem_head, mem_tail}
use Rattle.formula.specs.Words.{is_block_kind}
use Rattle.arrays.proofs.Nodes.{block_read, nodes_few}
use Rattle.block_counts.proofs.Counting.{plain_counted}
use Rattle.scopes.proofs.Nodes.{operand_lt, plain_read, negation_read, operator_read, none_read}
use Rattle.scopes.proofs.Stores.{stored_none, stored_both}
use Rattle.scopes.proofs.Scopes.{plain_filled}
use Rattle.scopes.proofs.fill_node.Goals as goal

pub bounds-parents-i : goal.bounds-parents-i
bounds-parents-i c = omega (arith, nodes_few c.args.words.now c.args.list.now c.requires.list_value)

pub bounds-levels-i : goal.bounds-levels-i
bounds-levels-i c = omega (arith, nodes_few c.args.words.now c.args.list.now c.requires.list_value)

pub overflow_add-pass : goal.overflow_add-pass
overflow_add-pass c = let h = c.requires.i_bound.1 in omega arith

pub hand_down-requires : goal.hand_down-requires
hand_down-requires c = (operand_lt c.args.words.now c.args.list.now c.requires.list_value c.args.i _ _ c.requires.i_bound.0 (operator_read _ _ _ _ c.node_at-node.ensures c.if-node-eq-OPERATOR.true) (mem_head _ _), c.requires.parents_len.0, c.requires.parents_len.1)

pub hand_down-requires-then-node-eq-OPERATOR : goal.hand_down-requires-then-node-eq-OPERATOR
hand_down-requires-then-node-eq-OPERATOR c =
    let d = c.hand_down in
    (operand_lt c.args.words.now c.args.list.now c.requires.list_value c.args.i _ _ c.requires.i_bound.0 (operator_read _ _ _ _ c.node_at-node.ensures c.if-node-eq-OPERATOR.true) (mem_tail _ _ _ (mem_head _ _)), d.auto.parents ∙ c.requires.parents_len.0, d.auto.levels ∙ c.requires.parents_len.1)

pub returns-then-node-eq-OPERATOR : goal.returns-then-node-eq-OPERATOR
unfolding is_block_kind
returns-then-node-eq-OPERATOR c =
    let d = c.hand_down.ensures in
    let d2 = c.hand_down-then-node-eq-OPERATOR.ensures in
    let r = c.node_at-node.ensures in
    let k = c.if-node-eq-OPERATOR.true in
    let p = plain_read c.args.words.now c.args.list.now c.args.i _ r 4 k refl in record {
      scopes_from_2 = plain_filled c.args.words.now c.args.list.now c.requires.list_value c.args.i c.requires.i_bound.0 _ _ c.requires.scopes_from _ _ _ (operator_read _ _ _ _ r k) p (stored_both _ _ _ _ _ _ d.stored d2.stored) (stored_both _ _ _ _ _ _ d.stored_2 d2.stored_2);
      visited_value = refl;
      counts_from_2 = plain_counted c.args.words.now c.args.list.now c.requires.list_value c.args.i c.requires.i_bound.0 _ c.requires.counts_from p;
    }

pub hand_down-requires-then-node-eq-NEGATION : goal.hand_down-requires-then-node-eq-NEGATION
hand_down-requires-then-node-eq-NEGATION c = (operand_lt c.args.words.now c.args.list.now c.requires.list_value c.args.i _ _ c.requires.i_bound.0 (negation_read _ _ _ _ c.node_at-node.ensures c.if-node-eq-NEGATION.true) (mem_head _ _), c.requires.parents_len.0, c.requires.parents_len.1)

pub returns-then-node-eq-NEGATION : goal.returns-then-node-eq-NEGATION
unfolding is_block_kind
returns-then-node-eq-NEGATION c =
    let d = c.hand_down-then-node-eq-NEGATION.ensures in
    let r = c.node_at-node.ensures in
    let k = c.if-node-eq-NEGATION.true in
    let p = plain_read c.args.words.now c.args.list.now c.args.i _ r 3 k refl in record {
      scopes_from_2 = plain_filled c.args.words.now c.args.list.now c.requires.list_value c.args.i c.requires.i_bound.0 _ _ c.requires.scopes_from _ _ _ (negation_read _ _ _ _ r k) p d.stored d.stored_2;
      visited_value = refl;
      counts_from_2 = plain_counted c.args.words.now c.args.list.now c.requires.list_value c.args.i c.requires.i_bound.0 _ c.requires.counts_from p;
    }

pub fill_block-requires : goal.fill_block-requires
fill_block-requires c = let e = sym (c.is_block_kind.ensures ∙ block_read c.args.words.now c.args.list.now c.args.i _ c.node_at-node.ensures) ∙ c.if-is_block_kind.true in record { list_value = c.requires.list_value; i_bound = (c.requires.i_bound.0, e); parents_len = c.requires.parents_len; scopes_from = c.requires.scopes_from; counts_from = c.requires.counts_from }

pub returns-then-is_block_kind : goal.returns-then-is_block_kind
returns-then-is_block_kind c =
    let f = c.fill_block.ensures in record {
      scopes_from_2 = f.scopes_from_2;
      visited_value = refl;
      counts_from_2 = f.counts_from_2;
    }

pub returns-else-is_block_kind : goal.returns-else-is_block_kind
returns-else-is_block_kind c =
    let r = c.node_at-node.ensures in
    let p = sym (c.is_block_kind.ensures ∙ block_read c.args.words.now c.args.list.now c.args.i _ r) ∙ c.if-is_block_kind.false in record {
      scopes_from_2 = plain_filled c.args.words.now c.args.list.now c.requires.list_value c.args.i c.requires.i_bound.0 _ _ c.requires.scopes_from _ _ _ (none_read _ _ _ _ r c.if-node-eq-NEGATION.false c.if-node-eq-OPERATOR.false p) p (stored_none _ _) (stored_none _ _);
      visited_value = refl;
      counts_from_2 = plain_counted c.args.words.now c.args.list.now c.requires.list_value c.args.i c.requires.i_bound.0 _ c.requires.counts_from p;
    }
