-- `prenex::lift_accepted` meets its contract.
-- Assumes nothing.
use mathlib.Core.Path.{refl, ap}
use Rattle.prenex_form.proofs.Theorem.{sizes_written}
use Rattle.prenex_form.specs.declared.Sizes.{Sizes}
use Rattle.lists.proofs.Stores.{get_or-filled}
use Rattle.formula.specs.Words.{table_of}
use Rattle.prenex.specs.Arrays.{Room}
use Rattle.prenex.specs.Outcome.{buffers}
use Rattle.prenex.proofs.Answers.{short_nodes, short_prefix, short_variables, lifted_short, lifted_done}
use native.Mathlib.Omega.{arith}
use Rattle.prenex.proofs.lift_accepted.Goals as goal

pub returns-then-nodes-sizes : goal.returns-then-nodes-sizes
returns-then-nodes-sizes c =
    let m = sizes_written (table_of c.args.words.now c.args.list.now) in
    let e = ap (λ (z : Sizes). z.nodes) c.sizes_of-sizes.ensures in
    lifted_short c.args.words.now c.args.list.now c.requires (buffers c.args.nodes.now c.args.prefix.now c.args.variables.now) (short_nodes (table_of c.args.words.now c.args.list.now) (buffers c.args.nodes.now c.args.prefix.now c.args.variables.now) (omega (arith, m.nodes_measured, e, c.if-nodes-sizes.true))) _ c.short.ensures

pub returns-then-prefix-sizes : goal.returns-then-prefix-sizes
returns-then-prefix-sizes c =
    let m = sizes_written (table_of c.args.words.now c.args.list.now) in
    let e = ap (λ (z : Sizes). z.blocks) c.sizes_of-sizes.ensures in
    lifted_short c.args.words.now c.args.list.now c.requires (buffers c.args.nodes.now c.args.prefix.now c.args.variables.now) (short_prefix (table_of c.args.words.now c.args.list.now) (buffers c.args.nodes.now c.args.prefix.now c.args.variables.now) (omega (arith, m.blocks_measured, e, c.if-prefix-sizes.true))) _ c.short-then-prefix-sizes.ensures

pub returns-then-variables-sizes : goal.returns-then-variables-sizes
returns-then-variables-sizes c =
    let m = sizes_written (table_of c.args.words.now c.args.list.now) in
    let e = ap (λ (z : Sizes). z.entries) c.sizes_of-sizes.ensures in
    lifted_short c.args.words.now c.args.list.now c.requires (buffers c.args.nodes.now c.args.prefix.now c.args.variables.now) (short_variables (table_of c.args.words.now c.args.list.now) (buffers c.args.nodes.now c.args.prefix.now c.args.variables.now) (omega (arith, m.entries_measured, e, c.if-variables-sizes.true))) _ c.short-then-variables-sizes.ensures

pub chain_levels-requires-clause-cleared : goal.chain_levels-requires-clause-cleared
chain_levels-requires-clause-cleared c = record { firsts_length = refl; nexts_length = refl; firsts_clear = λ l. get_or-filled 4096 l 0 }

pub write_form-requires : goal.write_form-requires
write_form-requires c =
    let m = sizes_written (table_of c.args.words.now c.args.list.now) in
    let z = c.sizes_of-sizes.ensures in record {
      nodes_fit = omega (arith, m.nodes_measured, ap (λ (z : Sizes). z.nodes) z, c.if-nodes-sizes.false);
      prefix_fits = omega (arith, m.blocks_measured, ap (λ (z : Sizes). z.blocks) z, c.if-prefix-sizes.false);
      variables_fit = omega (arith, m.entries_measured, ap (λ (z : Sizes). z.entries) z, c.if-variables-sizes.false);
    }

pub returns : goal.returns
returns c =
    let m = sizes_written (table_of c.args.words.now c.args.list.now) in
    let z = c.sizes_of-sizes.ensures in
    let room : Room c.args.words.now c.args.list.now c.args.nodes.now c.args.prefix.now c.args.variables.now =
    record {
      nodes_fit = omega (arith, m.nodes_measured, ap (λ (z : Sizes). z.nodes) z, c.if-nodes-sizes.false);
      prefix_fits = omega (arith, m.blocks_measured, ap (λ (z : Sizes). z.blocks) z, c.if-prefix-sizes.false);
      variables_fit = omega (arith, m.entries_measured, ap (λ (z : Sizes). z.entries) z, c.if-variables-sizes.false);
    } in
    lifted_done c.args.words.now c.args.list.now c.requires c.args.nodes.now c.args.prefix.now c.args.variables.now room _ _ c.done.ensures z _ _ _ c.write_form.ensures
