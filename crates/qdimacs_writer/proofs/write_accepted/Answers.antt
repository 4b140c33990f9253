-- `qdimacs_writer::write_accepted` meets its contract.
-- Assumes nothing.
use mathlib.Core.Path.{◌∙◌, ap}
use Prim.Native.Nat.{ℕ, ◌+◌}
use native.Mathlib.Omega.{arith}
use lib.ListN.{length-replicate}
use Rattle.qdimacs_numbers.proofs.Free.{flags_free, first_is, first_low}
use Rattle.qdimacs_writer.proofs.Pieces.{highest_below}
use Rattle.qdimacs_writer.proofs.write_accepted.Goals as goal

pub flag_free-last-requires : goal.flag_free-last-requires
flag_free-last-requires c =
    record {
      accepted_within = c.requires.accepted_form.matrix;
      names_len = c.requires.names_len.0;
    }

pub overflow_add-first : goal.overflow_add-first
overflow_add-first c =
    let low = first_low _ _ _ _ _ _ c.requires.accepted_form c.requires.names_len.1 c.flag_free-last.ensures c.args.highest c.requires.highest_value in
    omega (arith, c.higher-first.ensures, low)

pub number_nodes-numbering-requires : goal.number_nodes-numbering-requires
number_nodes-numbering-requires c =
    let low = first_low _ _ _ _ _ _ c.requires.accepted_form c.requires.names_len.1 c.flag_free-last.ensures c.args.highest c.requires.highest_value in
    let first = first_is _ _ _ _ _ _ c.requires.accepted_form c.requires.names_len.1 c.flag_free-last.ensures (c.flag_free-last.auto.names ∙ c.requires.names_len.0) c.args.highest c.requires.highest_value in record {
      accepted_within = c.requires.accepted_form.matrix;
      nodes_bound = (omega (arith, highest_below c.args.nodes.now c.args.prefix.now c.args.variables.now, first, c.higher-first.ensures), omega (arith, c.higher-first.ensures, low));
      words_len = length-replicate {A = ℕ} 40960 0;
    }

pub write_lines-requires : goal.write_lines-requires
write_lines-requires c =
    let size = c.flag_free-last.auto.names ∙ c.requires.names_len.0 in
    let low = first_low _ _ _ _ _ _ c.requires.accepted_form c.requires.names_len.1 c.flag_free-last.ensures c.args.highest c.requires.highest_value in
    let first = first_is _ _ _ _ _ _ c.requires.accepted_form c.requires.names_len.1 c.flag_free-last.ensures size c.args.highest c.requires.highest_value in
    record {
      form = c.requires.accepted_form;
      free = flags_free _ _ _ _ _ _ c.requires.accepted_form c.requires.names_len.1 c.flag_free-last.ensures size;
      first_is = ap (λ (k : ℕ). 1 + k) c.higher-first.ensures ∙ first;
      low = omega (arith, c.higher-first.ensures, low);
      numbered = c.number_nodes-numbering.ensures.numbered_below;
      few = c.number_nodes-numbering.ensures.clauses_bound;
      wide = c.number_nodes-numbering.auto.words ∙ length-replicate {A = ℕ} 40960 0;
    }

pub returns : goal.returns
returns c = c.write_lines.ensures
