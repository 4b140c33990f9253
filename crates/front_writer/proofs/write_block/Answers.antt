-- `front_writer::write_block` meets its contract: what is kept of the block's names is written, and where this is not nothing, its words.
-- Assumes nothing.
use mathlib.Core.Path.{◌≡◌, refl}
use Prim.Native.Nat.{◌+◌, ◌*◌}
use native.Mathlib.Omega.{arith}
use lib.ListN.{length}
use Rattle.formula.specs.Node.{Table}
use Rattle.formula.specs.Words.{table_of}
use Rattle.prefix_writer.proofs.Writing.{tail_room, tail_back}
use Rattle.front_writer.specs.Written.{front_words, front_names}
use Rattle.front_writer.proofs.Laws.{names_room, size_same, size_more, written_same, written_more}
use Rattle.front_writer.proofs.Block.{names_few, kind_is, lent_end, lent_numbered, lent_kept}
use Rattle.front_writer.proofs.write_block.Goals.{Else-count-eq0}
use Rattle.front_writer.proofs.write_block.Goals as goal

pub offset_bounds-variables-names : goal.offset_bounds-variables-names
offset_bounds-variables-names c = omega (arith, names_room (table_of c.args.words.now c.args.list.now) c.args.k _ _ _ c.requires.front_fits c.requires.blocks_value.1)

pub slice_bounds-write_names-count-2 : goal.slice_bounds-write_names-count-2
slice_bounds-write_names-count-2 c = omega (arith, names_room (table_of c.args.words.now c.args.list.now) c.args.k _ _ _ c.requires.front_fits c.requires.blocks_value.1)

pub slice_bounds-write_names-end : goal.slice_bounds-write_names-end
slice_bounds-write_names-end c = lent_end _ _ c.requires.list_value _ c.requires.k_bound.0 c.requires.k_bound.1 c.node_at-node.ensures

pub slice_bounds-write_names-start-2 : goal.slice_bounds-write_names-start-2
slice_bounds-write_names-start-2 c = omega (arith, names_room (table_of c.args.words.now c.args.list.now) c.args.k _ _ _ c.requires.front_fits c.requires.blocks_value.1)

pub write_names-count-requires : goal.write_names-count-requires
write_names-count-requires c =
    let read = c.node_at-node.ensures in
    let kept = lent_kept _ _ c.requires.list_value _ c.requires.k_bound.0 c.requires.k_bound.1 read c.args.standing.now c.requires.flags in
    let room = names_room (table_of c.args.words.now c.args.list.now) c.args.k _ _ _ c.requires.front_fits c.requires.blocks_value.1 in record {
      numbered = (lent_numbered _ _ c.requires.list_value _ c.requires.k_bound.0 c.requires.k_bound.1 read, c.requires.flags.size);
      names_in_bounds = rw kept (tail_room c.args.variables.now _ _ _ refl room);
    }

pub returns-then-count-eq0 : goal.returns-then-count-eq0
returns-then-count-eq0 c =
    let t = table_of c.args.words.now c.args.list.now in
    let read = c.node_at-node.ensures in
    let v = c.write_names-count.ensures in
    let kept = lent_kept _ _ c.requires.list_value _ c.requires.k_bound.0 c.requires.k_bound.1 read c.args.standing.now c.requires.flags in
    let room = names_room t c.args.k _ _ _ c.requires.front_fits c.requires.blocks_value.1 in
    let sizes = c.requires.blocks_value in
    let back = tail_back c.args.variables.now c.args.at.names _ _ (omega arith) v.out_after in record {
      blocks_value_2 = size_same t c.args.k _ _ _ _ sizes.0 sizes.1 kept v.value c.if-count-eq0.true;
      by_index = λ prefix variables fits w. written_same t c.args.k _ _ _ _ sizes.0 sizes.1 kept v.value prefix variables fits _ _ _ w back c.if-count-eq0.true;
    }

abbrev table : Else-count-eq0 → Table
table c = table_of c.args.words.now c.args.list.now

more : (c : Else-count-eq0) → (3 * (c.args.at.blocks + 1) ≡ length (front_words (table c) (c.args.k + 1)))
    × (c.args.at.names + c.write_names-count.result ≡ length (front_names (table c) (c.args.k + 1)))
more c =
    let v = c.write_names-count.ensures in
    let kept = lent_kept _ _ c.requires.list_value _ c.requires.k_bound.0 c.requires.k_bound.1 c.node_at-node.ensures c.args.standing.now c.requires.flags in
    size_more (table c) c.args.k _ _ _ _ c.requires.blocks_value.0 c.requires.blocks_value.1 kept v.value c.if-count-eq0.false

pub write_words-requires : goal.write_words-requires
write_words-requires c =
    let sizes = more (goal.at.write_words-requires c).Else-count-eq0 in
    let few = names_few _ _ c.requires.list_value _ c.requires.k_bound.0 c.requires.k_bound.1 in
    (omega (arith, sizes.0, c.requires.front_fits.words_fit), omega (arith, sizes.1), omega (arith, sizes.1))

pub overflow_add-result : goal.overflow_add-result
overflow_add-result c = omega (arith, (more (goal.at.overflow_add-result c).Else-count-eq0).0, c.requires.front_fits.words_fit)

pub overflow_add-result-2 : goal.overflow_add-result-2
overflow_add-result-2 c = omega (arith, (more (goal.at.overflow_add-result-2 c).Else-count-eq0).1, names_few _ _ c.requires.list_value _ c.requires.k_bound.0 c.requires.k_bound.1)

pub returns : goal.returns
returns c =
    let t = table_of c.args.words.now c.args.list.now in
    let read = c.node_at-node.ensures in
    let v = c.write_names-count.ensures in
    let kept = lent_kept _ _ c.requires.list_value _ c.requires.k_bound.0 c.requires.k_bound.1 read c.args.standing.now c.requires.flags in
    let room = names_room t c.args.k _ _ _ c.requires.front_fits c.requires.blocks_value.1 in
    let sizes = c.requires.blocks_value in
    let back = tail_back c.args.variables.now c.args.at.names _ _ (omega arith) v.out_after in
    let some = c.if-count-eq0.false in record {
      blocks_value_2 = more (goal.at.returns c).Else-count-eq0;
      by_index = λ prefix variables fits w. written_more t c.args.k _ _ _ _ sizes.0 sizes.1 kept v.value prefix variables fits _ _ _ w back some _ (kind_is _ _ c.requires.list_value _ c.requires.k_bound.0 c.requires.k_bound.1 read) _ c.write_words.ensures;
    }
