-- `scopes::fill_block` meets its contract. A root block is the laws `root_filled` and `root_counted`, an inner one `inner_filled` and
-- `inner_counted`.
-- Assumes nothing.
use native.Mathlib.Omega.{arith}
use lib.ListN.{length-set}
use Rattle.lists.proofs.Members.{mem_head}
use Rattle.arrays.proofs.Nodes.{nodes_few}
use Rattle.scopes.proofs.Nodes.{operand_lt, body_read}
use Rattle.scopes.proofs.Scopes.{inherited_small, inner_own, root_filled, inner_filled}
use Rattle.block_counts.proofs.Counting.{root_counted, inner_counted, counted_small}
use Rattle.scopes.proofs.fill_block.Goals as goal

pub bounds-levels-i : goal.bounds-levels-i
bounds-levels-i c = omega (arith, nodes_few c.args.words.now c.args.list.now c.requires.list_value)

pub overflow_add-level : goal.overflow_add-level
overflow_add-level c = omega (arith, inherited_small c.args.words.now c.args.list.now c.requires.list_value c.args.i c.requires.i_bound.0 _ _ c.requires.scopes_from)

pub overflow_cast-i : goal.overflow_cast-i
overflow_cast-i c = omega (arith, nodes_few c.args.words.now c.args.list.now c.requires.list_value)

pub hand_down-requires : goal.hand_down-requires
hand_down-requires c =
    let r = c.node_at-node.ensures in
    (operand_lt c.args.words.now c.args.list.now c.requires.list_value c.args.i _ _ c.requires.i_bound.0 (body_read c.args.words.now c.args.list.now c.args.i _ r c.requires.i_bound.1) (mem_head _ _), c.requires.parents_len.0, c.requires.parents_len.1)

pub count_root-requires : goal.count_root-requires
count_root-requires c =
    let r = c.node_at-node.ensures in
    counted_small c.args.words.now c.args.list.now c.requires.list_value c.args.i c.requires.i_bound.0 _ (root_counted c.args.words.now c.args.list.now c.requires.list_value c.args.i c.requires.i_bound.0 _ c.requires.counts_from _ r c.requires.i_bound.1 c.if-i-words.true)

pub returns-then-i-words : goal.returns-then-i-words
returns-then-i-words c =
    let r = c.node_at-node.ensures in
    let z = c.if-i-words.true in
    let d = c.hand_down.ensures in record {
      scopes_from_2 = root_filled c.args.words.now c.args.list.now c.requires.list_value c.args.i c.requires.i_bound.0 _ _ c.requires.scopes_from _ _ _ (body_read c.args.words.now c.args.list.now c.args.i _ r c.requires.i_bound.1) c.requires.i_bound.1 z d.stored d.stored_2;
      counts_from_2 = rw c.count_root.ensures (root_counted c.args.words.now c.args.list.now c.requires.list_value c.args.i c.requires.i_bound.0 _ c.requires.counts_from _ r c.requires.i_bound.1 z);
    }

pub bounds-levels-i-else-i-words : goal.bounds-levels-i-else-i-words
bounds-levels-i-else-i-words c = omega (arith, nodes_few c.args.words.now c.args.list.now c.requires.list_value)

pub overflow_cast-i-else-i-words : goal.overflow_cast-i-else-i-words
overflow_cast-i-else-i-words c = omega (arith, nodes_few c.args.words.now c.args.list.now c.requires.list_value)

pub hand_down-requires-else-i-words : goal.hand_down-requires-else-i-words
hand_down-requires-else-i-words c =
    let r = c.node_at-node.ensures in
    (operand_lt c.args.words.now c.args.list.now c.requires.list_value c.args.i _ _ c.requires.i_bound.0 (body_read c.args.words.now c.args.list.now c.args.i _ r c.requires.i_bound.1) (mem_head _ _), c.requires.parents_len.0, simp length-set c.requires.parents_len.1)

pub overflow_cast-level : goal.overflow_cast-level
overflow_cast-level c = omega (arith, inherited_small c.args.words.now c.args.list.now c.requires.list_value c.args.i c.requires.i_bound.0 _ _ c.requires.scopes_from)

pub count_inner-requires : goal.count_inner-requires
count_inner-requires c =
    let r = c.node_at-node.ensures in
    let n = c.if-i-words.false in
    counted_small c.args.words.now c.args.list.now c.requires.list_value c.args.i c.requires.i_bound.0 _ (inner_counted c.args.words.now c.args.list.now c.requires.list_value c.args.i c.requires.i_bound.0 _ c.requires.counts_from _ r c.requires.i_bound.1 _ n (inner_own c.args.words.now c.args.list.now c.requires.list_value c.args.i c.requires.i_bound.0 _ _ c.requires.scopes_from c.requires.i_bound.1 n))

pub returns-else-i-words : goal.returns-else-i-words
returns-else-i-words c =
    let r = c.node_at-node.ensures in
    let n = c.if-i-words.false in
    let d = c.hand_down-else-i-words.ensures in record {
      scopes_from_2 = inner_filled c.args.words.now c.args.list.now c.requires.list_value c.args.i c.requires.i_bound.0 _ _ c.requires.scopes_from _ _ _ (body_read c.args.words.now c.args.list.now c.args.i _ r c.requires.i_bound.1) c.requires.i_bound.1 n c.requires.parents_len.1 d.stored d.stored_2;
      counts_from_2 = rw c.count_inner.ensures (inner_counted c.args.words.now c.args.list.now c.requires.list_value c.args.i c.requires.i_bound.0 _ c.requires.counts_from _ r c.requires.i_bound.1 _ n (inner_own c.args.words.now c.args.list.now c.requires.list_value c.args.i c.requires.i_bound.0 _ _ c.requires.scopes_from c.requires.i_bound.1 n));
    }
