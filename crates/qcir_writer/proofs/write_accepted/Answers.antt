-- `qcir_writer::write_accepted` meets its contract.
-- Assumes nothing.
use mathlib.Core.Path.{sym, ◌∙◌, ap, subst}
use mathlib.Core.List.{[]}
use Prim.Native.Nat.{ℕ, ◌+◌}
use native.Mathlib.Omega.{arith}
use lib.ListN.{length-replicate}
use Rattle.lists.proofs.Stores.{get_or-filled}
use Rattle.formula.specs.Words.{table_of}
use Rattle.qcir_literals.specs.Literals.{Filled}
use Rattle.qcir_writer.proofs.Flags.{open_flags, first_gate_lem, first_low}
use Rattle.qcir_writer.proofs.write_accepted.Goals as goal

pub mark_written-last-requires : goal.mark_written-last-requires
mark_written-last-requires c =
    record {
      accepted_within = c.requires.accepted_form.matrix;
      marks_len = (length-replicate {A = ℕ} 40960 0, λ i. get_or-filled 40960 i 0);
      names_len = c.requires.names_len.0;
    }

-- what is known once the nodes are marked
pub overflow_add-max : goal.overflow_add-max
overflow_add-max c =
    let low = first_low _ _ _ _ _ _ _ c.requires.accepted_form c.requires.names_len.1 c.mark_written-last.ensures c.args.highest c.requires.highest_value in
    omega (arith, c.max.ensures, low)

pub fill_literals-requires : goal.fill_literals-requires
fill_literals-requires c =
    let low = first_low _ _ _ _ _ _ _ c.requires.accepted_form c.requires.names_len.1 c.mark_written-last.ensures c.args.highest c.requires.highest_value in record {
      accepted_within = c.requires.accepted_form.matrix;
      literals_len = (c.mark_written-last.auto.marks ∙ length-replicate {A = ℕ} 40960 0, c.mark_written-last.ensures.marked);
      first_nonzero = (omega arith, omega (arith, c.max.ensures, low));
    }

pub write_lines-requires : goal.write_lines-requires
write_lines-requires c =
    let first = first_gate_lem _ _ _ _ _ _ _ c.requires.accepted_form c.requires.names_len.1 c.mark_written-last.ensures c.args.highest c.requires.highest_value in record {
      accepted_form = c.requires.accepted_form;
      free_flags = open_flags _ _ _ _ _ _ _ c.requires.accepted_form c.requires.names_len.1 c.mark_written-last.ensures (c.mark_written-last.auto.names ∙ c.requires.names_len.0);
      filled = subst (λ (k : ℕ). Filled (table_of c.args.nodes.now []) k c.fill_literals.new.literals) (sym (first ∙ ap (λ (k : ℕ). 1 + k) (sym c.max.ensures))) c.fill_literals.ensures;
      literals_len = c.fill_literals.auto.literals ∙ (c.mark_written-last.auto.marks ∙ length-replicate {A = ℕ} 40960 0);
    }

pub returns : goal.returns
returns c = c.write_lines.ensures
