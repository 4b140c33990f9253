-- `qcir_misplaced::pass` meets its contract: an entry, a definition, or any other token.
-- Assumes nothing.
use mathlib.Core.Path.{sym, ◌∙◌, ap}
use native.Mathlib.Numerals.{add-one}
use Rattle.qcir_misplaced.proofs.Turn.{entry_defines_none, stored_entry, lists_other, line_definition, line_other}
use Rattle.qcir_misplaced.proofs.pass.Goals as goal

pub returns-then-is_entry : goal.returns-then-is_entry
returns-then-is_entry c =
    let e = sym c.is_entry.ensures ∙ c.if-is_entry.true in record {
      by_index = stored_entry _ _ _ _ c.args.lists.now c.requires.x_in_bounds (add-one _) e;
      value = sym (line_other _ _ _ (entry_defines_none _ e));
    }

pub returns-then-is_definition : goal.returns-then-is_definition
returns-then-is_definition c =
    let e = sym c.is_entry.ensures ∙ c.if-is_entry.false in
    let d = sym c.is_definition.ensures ∙ c.if-is_definition.true in record {
      by_index = λ y. sym (ap (λ l. l y) (lists_other _ _ _ _ e));
      value = rw add-one (sym (line_definition _ _ _ d));
    }

pub returns : goal.returns
returns c =
    let e = sym c.is_entry.ensures ∙ c.if-is_entry.false in
    let d = sym c.is_definition.ensures ∙ c.if-is_definition.false in record {
      by_index = λ y. sym (ap (λ l. l y) (lists_other _ _ _ _ e));
      value = sym (line_other _ _ _ d);
    }
