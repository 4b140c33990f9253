-- `qcir_reader::store_table` meets its contract: refusals 2, 6 and 9 are decided before anything is written.
-- Assumes nothing.
use mathlib.Core.Path.{sym, ◌∙◌}
use Rattle.refusals.specs.Verdict.{refusal}
use Rattle.qcir.proofs.Theorem.{table_whole}
use Rattle.qcir_table_sizes.proofs.Excess.{below_some, below_none}
use Rattle.qcir_reader.proofs.Stages.{refuses, many_nodes, many_variables, Within, few_listed, short_words, short_list, stored_done}
use native.Mathlib.Omega.{arith}
use Rattle.qcir_reader.proofs.store_table.Goals as goal

pub table_sizes-sizes-requires : goal.table_sizes-sizes-requires
table_sizes-sizes-requires c =
    record { definitions_in = c.requires.definitions_in }

pub returns-then-nodes : goal.returns-then-nodes
returns-then-nodes c =
    λ f h. let z = c.table_sizes-sizes.ensures f h in
    many_nodes f c.args.words.now c.args.list.now _ (omega (arith, z.0, c.if-nodes.true)) (refuses _ c.refusal.result (refusal 2 0) c.refusal.ensures c.refused.ensures)

pub returns-in-Some : goal.returns-in-Some
returns-in-Some c =
    λ f h. let z = c.table_sizes-sizes.ensures f h in
    let b = below_some _ _ c.in-Some.block (sym z.2 ∙ c.in-Some.is) in
    many_variables f c.args.words.now c.args.list.now _ _ (omega (arith, z.0, c.if-nodes.false)) b.0 b.1 (refuses _ c.refusal-in-Some.result (refusal 6 c.in-Some.block) c.refusal-in-Some.ensures c.refused-in-Some.ensures)

pub returns-then-words-length : goal.returns-then-words-length
returns-then-words-length c =
    λ f h. let z = c.table_sizes-sizes.ensures f h in
    let whole = table_whole f in
    let w : Within f c.args.words.now c.args.list.now = record { nodes_within = omega (arith, z.0, c.if-nodes.false); none_exceeding = below_none _ _ (sym z.2 ∙ c.in_default.is) } in
    short_words f c.args.words.now c.args.list.now _ w (omega (arith, z.0, whole, c.if-words-length.true)) (refuses _ c.refusal-then-words-length.result (refusal 9 0) c.refusal-then-words-length.ensures c.refused-then-words-length.ensures)

pub returns-then-list-entries : goal.returns-then-list-entries
returns-then-list-entries c =
    λ f h. let z = c.table_sizes-sizes.ensures f h in
    let w : Within f c.args.words.now c.args.list.now = record { nodes_within = omega (arith, z.0, c.if-nodes.false); none_exceeding = below_none _ _ (sym z.2 ∙ c.in_default.is) } in
    short_list f c.args.words.now c.args.list.now _ w (omega (arith, z.1, c.if-list-entries.true)) (refuses _ c.refusal-then-list-entries.result (refusal 9 0) c.refusal-then-list-entries.ensures c.refused-then-list-entries.ensures)

pub write_table-requires : goal.write_table-requires
write_table-requires c =
    let f = c.requires.holds_names.0 in
    let h = c.requires.holds_names.1 in
    let z = c.table_sizes-sizes.ensures f h in
    let whole = table_whole f in
    let w : Within f c.args.words.now c.args.list.now = record { nodes_within = omega (arith, z.0, c.if-nodes.false); none_exceeding = below_none _ _ (sym z.2 ∙ c.in_default.is) } in (
      f,
      h,
      record {
        words_fit = omega (arith, z.0, whole, c.if-words-length.false);
        list_fits = omega (arith, z.1, c.if-list-entries.false);
        few_nodes = w.nodes_within;
        few_entries = few_listed f c.args.words.now c.args.list.now w;
      },
    )

pub returns : goal.returns
returns c =
    λ f h. let z = c.table_sizes-sizes.ensures f h in
    let whole = table_whole f in
    let w : Within f c.args.words.now c.args.list.now = record { nodes_within = omega (arith, z.0, c.if-nodes.false); none_exceeding = below_none _ _ (sym z.2 ∙ c.in_default.is) } in
    let t = c.write_table.ensures f h in
    stored_done f c.args.words.now c.args.list.now _ _ _ _ _ w (omega (arith, z.0, whole, c.if-words-length.false)) (omega (arith, z.1, c.if-list-entries.false)) c.accepted.ensures z.0 z.1 t.0 t.1
