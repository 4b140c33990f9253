-- `qcir_lines::put_text` meets its contract: the pieces one after the other are the text of the form.
-- Assumes nothing.
use native.Mathlib.Omega.{arith}
use Prim.Native.Nat.{◌-◌, ◌≤◌}
use Rattle.formula.specs.Words.{node_count, table_of}
use Rattle.qcir_lines.specs.Lines.{last_start}
use Rattle.qcir_lines.proofs.Form.{pieces_short, prefix_writable, put_pieces}
use Rattle.qcir_lines.proofs.put_text.Goals as goal

pub put_prefix-next-requires : goal.put_prefix-next-requires
put_prefix-next-requires c =
    let short = pieces_short c.requires.accepted_form c.requires.free_flags c.requires.filled in record {
      writable = prefix_writable c.requires.accepted_form c.requires.free_flags c.requires.filled;
      at_le_last_start = omega (arith, short, c.put_header-next.ensures.value, c.put_free-next.ensures.counted);
    }

pub overflow_sub-root : goal.overflow_sub-root
unfolding table_of
overflow_sub-root c = omega (arith, c.requires.accepted_form.matrix.proper.tree.nonempty)

pub put_output-next-requires : goal.put_output-next-requires
put_output-next-requires c =
    let short = pieces_short c.requires.accepted_form c.requires.free_flags c.requires.filled in
    let low = c.requires.filled.low (node_count c.args.nodes.now - 1) in
    (omega (arith, short, c.put_header-next.ensures.value, c.put_free-next.ensures.counted, c.put_prefix-next.ensures.counted), omega (arith, low))

pub put_gates-requires-clause-literals_len : goal.put_gates-requires-clause-literals_len
put_gates-requires-clause-literals_len c =
    let short = pieces_short c.requires.accepted_form c.requires.free_flags c.requires.filled in
    let at : c.put_output-next.result ≤ last_start = omega (arith, short, c.put_header-next.ensures.value, c.put_free-next.ensures.counted, c.put_prefix-next.ensures.counted, c.put_output-next.ensures.upper_bound) in
    (c.requires.literals_len, c.requires.filled.low, at)

pub returns : goal.returns
returns c = put_pieces c.requires.accepted_form c.requires.free_flags c.requires.filled c.put_header-next.ensures.put c.put_free-next.ensures c.put_prefix-next.ensures c.put_output-next.ensures.put c.put_gates.ensures
