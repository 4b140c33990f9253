-- `prenex::write_form` meets its contract.
-- Assumes nothing.
use mathlib.Core.Path.{refl, ap}
use native.Mathlib.Omega.{arith}
use Rattle.lists.specs.Parts.{sum}
use Rattle.formula.specs.Words.{table_of}
use Rattle.acceptance.proofs.Accepted.{accepted_holds}
use Rattle.prenex_form.specs.Names.{bound_count, inner_below}
use Rattle.prenex_form.proofs.NameLaws.{inner_bound_le_lem}
use Rattle.prenex_form.proofs.Limits.{bound_limit}
use lib.ListN.{length}
use Rattle.matrix_writer.specs.Added.{added_nodes}
use Rattle.prenex.proofs.Matrix.{kept_is, first_room, added_room, whole}
use Rattle.prenex.proofs.Measured.{root_le, count_some}
use Rattle.prenex.proofs.write_form.Goals as goal

pub take_run-names-requires : goal.take_run-names-requires
take_run-names-requires c =
    let f = c.args.found.now in
    let a = accepted_holds f.words.now f.list.now f.started.checked in
    omega (arith, f.counted.bound_is, f.highest_is, f.highest_low, bound_limit f.words.now f.list.now a)

pub take_run-copies-requires : goal.take_run-copies-requires
unfolding table_of bound_count
take_run-copies-requires c =
    let f = c.args.found.now in
    let t = table_of f.words.now f.list.now in
    omega (
      arith,
      f.counted.bound_is,
      f.counted.inner_bound_is,
      f.highest_is,
      f.highest_low,
      c.take_run-names.ensures.1,
      bound_limit f.words.now f.list.now (accepted_holds f.words.now f.list.now f.started.checked),
      inner_bound_le_lem t t.size,
    )

pub overflow_sub-first : goal.overflow_sub-first
unfolding table_of
overflow_sub-first c =
    let f = c.args.found.now in
    omega (arith, c.root_blocks.ensures, root_le (table_of f.words.now f.list.now), count_some f.words.now f.list.now f.started.checked)

pub write_first-requires : goal.write_first-requires
unfolding table_of inner_below sum
write_first-requires c =
    let f = c.args.found.now in
    let ok = f.started.checked in
    let x = c.take_run-names.ensures in
    let y = c.take_run-copies.ensures in
    let k = c.root_blocks.ensures in
    let e = kept_is f.words.now f.list.now ok in
    let r = first_room f.words.now f.list.now ok c.args.nodes.now c.requires.nodes_fit in record {
      counted = record { definitions_length = refl; next_is = omega (arith, x.1, y.1, f.highest_is, f.counted.bound_is, f.counted.inner_bound_is) };
      count_value_1 = omega (arith, k, e);
      count_value_2 = omega (arith, k, e, r);
    }

pub write_levels-requires-clause-first_value : goal.write_levels-requires-clause-first_value
unfolding table_of
write_levels-requires-clause-first_value c =
    let f = c.args.found.now in
    omega (arith, c.root_blocks.ensures, kept_is f.words.now f.list.now f.started.checked)

pub write_levels-requires-clause-room : goal.write_levels-requires-clause-room
unfolding table_of
write_levels-requires-clause-room c =
    let f = c.args.found.now in
    let k = c.root_blocks.ensures in
    let e = kept_is f.words.now f.list.now f.started.checked in
    let r = added_room f.words.now f.list.now f.started.checked c.args.nodes.now c.requires.nodes_fit c.write_first.new.nodes c.write_first.auto.nodes in
    let q = ap (λ d. length (added_nodes (table_of f.words.now f.list.now) d)) f.counted.deepest_is in
    record { fits = omega (arith, r.fits, q, k, e); small = omega (arith, r.small, q, k, e) }

pub returns : goal.returns
returns c =
    let f = c.args.found.now in
    let w = c.write_prefix.ensures in
    record {
      nodes_are = whole f.words.now f.list.now f.started.checked c.args.nodes.now c.requires.nodes_fit _ _ c.write_first.ensures.nodes_after c.write_levels.ensures;
      prefix_is = w.prefix_after;
      variables_are = w.variables_after;
    }
