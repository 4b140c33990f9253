-- `remove_empty_blocks::write_node` meets its contract: an empty block takes its body's new index, and any other node is written.
-- Assumes nothing.
use mathlib.Core.Path.{sym, ◌∙◌, ap}
use Prim.Native.Nat.{◌*◌}
use native.Mathlib.Omega.{arith}
use lib.ListN.{get_or, length-set}
use Rattle.lists.specs.Parts.{overwrite}
use Rattle.lists.proofs.Overwrite.{overwrite_nil}
use Rattle.formula.specs.Words.{width}
use Rattle.empty_blocks.specs.Removal.{renumbered}
use Rattle.empty_blocks.proofs.Left.{gone_of}
use Rattle.empty_blocks.proofs.Words.{lower_than}
use Rattle.remove_empty_blocks.proofs.Left.{left_le, next_stays, next_goes, index_within, body_within, indexed_empty, indexed_left, written_left}
use Rattle.remove_empty_blocks.proofs.write_node.Goals as goal

pub overflow_cast-index : goal.overflow_cast-index
overflow_cast-index c = omega (arith, c.requires.at_value, left_le c.args.words.now c.args.i, c.requires.i_bound, c.requires.small_table.few)

pub bounds-indices-node : goal.bounds-indices-node
bounds-indices-node c =
    let n = c.node_at-node.ensures in
    let goes = sym c.stays.ensures ∙ c.if-not-stays.true in
    rw (ap (λ w. w.c) n) (body_within _ _ c.requires.small_table c.args.i c.requires.i_bound c.requires.new_indices goes)

pub returns-then-not-stays : goal.returns-then-not-stays
returns-then-not-stays c =
    let p = c.requires in
    let a = c.args in
    let n = c.node_at-node.ensures in
    let goes = sym c.stays.ensures ∙ c.if-not-stays.true in
    let indexed = indexed_empty _ _ p.small_table a.i p.i_bound p.new_indices goes _ (ap (λ w. get_or a.indices.now w.c 0) n) in record {
      value = next_goes _ _ _ goes p.at_value;
      new_indices_2 = indexed;
      nodes_after = rw (gone_of _ _ goes, overwrite_nil);
    }

pub renumber-left-requires : goal.renumber-left-requires
renumber-left-requires c =
    let p = c.requires in
    let i = c.args.i in
    let room = index_within _ _ p.small_table i p.i_bound p.new_indices in
    rw (c.node_at-node.ensures, length-set) (lower_than i _ (p.small_table.lower i p.i_bound) _ (omega arith))

pub put_node-requires : goal.put_node-requires
put_node-requires c =
    let stay = sym c.stays.ensures ∙ c.if-not-stays.false in
    omega (arith, next_stays c.args.words.now c.args.i c.args.at stay c.requires.at_value, c.requires.i_in_bounds)

pub overflow_add-result : goal.overflow_add-result
overflow_add-result c = omega (arith, c.requires.at_value, left_le c.args.words.now c.args.i, c.requires.i_bound, c.requires.small_table.few)

pub returns : goal.returns
returns c =
    let p = c.requires in
    let a = c.args in
    let stay = sym c.stays.ensures ∙ c.if-not-stays.false in
    let w = c.renumber-left.ensures ∙ ap (renumbered _) c.node_at-node.ensures in
    let left = written_left _ _ p.small_table a.i p.i_bound p.new_indices stay _ p.at_value _ w in record {
      value = next_stays _ _ _ stay p.at_value;
      new_indices_2 = indexed_left _ _ p.small_table a.i p.i_bound p.new_indices stay _ p.at_value;
      nodes_after = c.put_node.ensures ∙ ap (overwrite a.nodes.now (width * a.at)) left;
    }
