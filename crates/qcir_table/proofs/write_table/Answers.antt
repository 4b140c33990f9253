-- `qcir_table::write_table` meets its contract: the gate lines, the output and the prefix lines, one after the other.
-- Assumes nothing.
use mathlib.Core.Path.{refl}
use native.Mathlib.Omega.{arith}
use Rattle.qcir_table.proofs.Whole.{no_gates, enough, gates_words_room, gates_list_room, output_room, lines_words_room, lines_list_room, table_written}
use Rattle.qcir_table.proofs.write_table.Goals as goal

pub overflow_add-output : goal.overflow_add-output
overflow_add-output c =
    let a = c.args in
    let h = enough a.tokens.now.roles.now a.tokens.now.numbers.now a.tokens.now.count c.output_index-output.result a.words.now a.list.now c.output_index-output.ensures c.requires in
    omega (arith, h.below, h.roles_hold)

pub write_gates-p-requires : goal.write_gates-p-requires
write_gates-p-requires c =
    let a = c.args in
    let h = enough a.tokens.now.roles.now a.tokens.now.numbers.now a.tokens.now.count c.output_index-output.result a.words.now a.list.now c.output_index-output.ensures c.requires in record {
      first_le_count = omega (arith, h.below);
      nodes_of = no_gates 65536 refl;
      first_in_bounds = gates_words_room _ _ _ _ _ _ h;
      first_in_bounds_2 = gates_list_room _ _ _ _ _ _ h;
    }

pub bounds-tokens-output : goal.bounds-tokens-output
bounds-tokens-output c =
    let a = c.args in
    let h = enough a.tokens.now.roles.now a.tokens.now.numbers.now a.tokens.now.count c.output_index-output.result a.words.now a.list.now c.output_index-output.ensures c.requires in
    omega (arith, h.below, h.roles_hold)

pub offset_bounds-tokens-output : goal.offset_bounds-tokens-output
offset_bounds-tokens-output c =
    let a = c.args in
    let h = enough a.tokens.now.roles.now a.tokens.now.numbers.now a.tokens.now.count c.output_index-output.result a.words.now a.list.now c.output_index-output.ensures c.requires in
    omega (arith, h.below, h.roles_hold)

pub bounds-tokens-output-2 : goal.bounds-tokens-output-2
bounds-tokens-output-2 c =
    let a = c.args in
    let h = enough a.tokens.now.roles.now a.tokens.now.numbers.now a.tokens.now.count c.output_index-output.result a.words.now a.list.now c.output_index-output.ensures c.requires in
    omega (arith, h.below, h.numbers_hold)

pub write_output-q-requires : goal.write_output-q-requires
write_output-q-requires c =
    let a = c.args in
    let h = enough a.tokens.now.roles.now a.tokens.now.numbers.now a.tokens.now.count c.output_index-output.result a.words.now a.list.now c.output_index-output.ensures c.requires in
    let e = c.write_gates-p.ensures in record {
      nodes_len = e.nodes_of_2.wide;
      room = output_room _ _ _ _ _ _ h _ _ _ _ e.words_after e.list_after e.nodes_of_2 e.value c.write_gates-p.auto.words c.write_gates-p.auto.list;
    }

pub write_lines-requires : goal.write_lines-requires
write_lines-requires c =
    let a = c.args in
    let h = enough a.tokens.now.roles.now a.tokens.now.numbers.now a.tokens.now.count c.output_index-output.result a.words.now a.list.now c.output_index-output.ensures c.requires in
    let e = c.write_gates-p.ensures in record {
      outer_in_bounds = omega (arith, h.below);
      outer_in_bounds_2 = lines_words_room _ _ _ _ _ _ h _ _ _ _ e.words_after e.list_after e.nodes_of_2 e.value c.write_gates-p.auto.words c.write_gates-p.auto.list _ _ c.write_output-q.ensures c.write_output-q.auto.words;
      outer_in_bounds_3 = lines_list_room _ _ _ _ _ _ h _ _ _ _ e.words_after e.list_after e.nodes_of_2 e.value c.write_gates-p.auto.words c.write_gates-p.auto.list _ _ c.write_output-q.ensures c.write_output-q.auto.words;
    }

pub returns : goal.returns
returns c =
    λ f held. let a = c.args in
    let h = enough a.tokens.now.roles.now a.tokens.now.numbers.now a.tokens.now.count c.output_index-output.result a.words.now a.list.now c.output_index-output.ensures c.requires in
    let e = c.write_gates-p.ensures in
    let l = c.write_lines.ensures in
    table_written _ _ _ _ _ _ h _ _ _ _ e.words_after e.list_after e.nodes_of_2 e.value c.write_gates-p.auto.words c.write_gates-p.auto.list _ _ c.write_output-q.ensures c.write_output-q.auto.words held.0 f c.output_index-output.ensures held.1.tokens _ _ l.words_after l.list_after
