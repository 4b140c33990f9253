-- `prenex::sizes_of` meets its contract.
-- Assumes nothing.
use mathlib.Core.Path.{◌∙◌, refl, ap}
use Prim.Native.Nat.{◌+◌}
use lib.Dec.{eqb}
use Rattle.lists.specs.Choice.{pick}
use Rattle.formula.specs.Words.{table_of}
use Rattle.prenex_form.specs.Prefix.{block_count}
use Rattle.prenex.proofs.Measured.{root_le, sizes_are, levels_limit, count_limit, count_some, added_limit, bound_few, inner_bound_few, inner_few}
use native.Mathlib.Omega.{arith}
use Rattle.prenex.proofs.sizes_of.Goals as goal

pub overflow_cast-n : goal.overflow_cast-n
overflow_cast-n c = omega (arith, count_limit c.args.words.now c.args.list.now c.requires.list_value)

pub overflow_add-result : goal.overflow_add-result
unfolding table_of
overflow_add-result c = omega (arith, levels_limit c.args.words.now c.args.list.now c.requires.list_value, c.requires.block_counts.deepest_is, root_le (table_of c.args.words.now c.args.list.now), c.root_blocks-root.ensures)

pub overflow_sub-result : goal.overflow_sub-result
unfolding table_of
overflow_sub-result c = omega (arith, count_some c.args.words.now c.args.list.now c.requires.list_value, root_le (table_of c.args.words.now c.args.list.now), c.root_blocks-root.ensures)

pub overflow_add-result-2 : goal.overflow_add-result-2
unfolding table_of
overflow_add-result-2 c = omega (arith, added_limit c.args.words.now c.args.list.now c.requires.list_value, c.requires.block_counts.added_is, c.root_blocks-root.ensures)

pub prefix_count-requires : goal.prefix_count-requires
prefix_count-requires c = omega (arith, levels_limit c.args.words.now c.args.list.now c.requires.list_value, c.requires.block_counts.deepest_is)

pub overflow_add-result-3 : goal.overflow_add-result-3
unfolding table_of
overflow_add-result-3 c = omega (arith, bound_few c.args.words.now c.args.list.now c.requires.list_value, inner_bound_few c.args.words.now c.args.list.now c.requires.list_value, c.requires.block_counts.bound_is, c.requires.block_counts.inner_bound_is)

pub overflow_add-result-4 : goal.overflow_add-result-4
unfolding table_of
overflow_add-result-4 c =
    let n = c.requires.block_counts in
    omega (arith, bound_few c.args.words.now c.args.list.now c.requires.list_value, inner_bound_few c.args.words.now c.args.list.now c.requires.list_value, inner_few c.args.words.now c.args.list.now c.requires.list_value, n.bound_is, n.inner_bound_is, n.inner_is)

pub returns : goal.returns
unfolding table_of
returns c =
    let ws = c.args.words.now in
    let ls = c.args.list.now in
    let n = c.requires.block_counts in
    let p = c.prefix_count.ensures in
    let r = c.root_blocks-root.ensures in
    sizes_are ws ls c.requires.list_value _ _ _ _ _ _ _ refl n.blocks_is n.bound_is (omega (arith, n.deepest_is, r)) (omega (arith, r, n.added_is))
    (p ∙ ap (λ k. pick (eqb k 0) 0 (c.args.counts.deepest + 1)) n.blocks_is ∙ ap (λ k. pick (eqb (block_count (table_of ws ls)) 0) 0 (k + 1)) n.deepest_is)
    (omega (arith, n.bound_is, n.inner_is, n.inner_bound_is))
