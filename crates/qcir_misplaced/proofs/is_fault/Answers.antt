-- `qcir_misplaced::is_fault` meets its contract: an entry, a definition, or any other token.
-- Assumes nothing.
use mathlib.Core.Path.{sym, ◌∙◌, ap}
use mathlib.Core.Bool.{◌&&◌}
use native.Mathlib.Numerals.{add-one}
use lib.Dec.{leb}
use Rattle.qcir_misplaced.proofs.Turn.{fault_entry, fault_definition, fault_other}
use Rattle.qcir_misplaced.proofs.is_fault.Goals as goal

pub returns-then-is_entry : goal.returns-then-is_entry
returns-then-is_entry c = rw add-one (sym (fault_entry _ _ _ _ _ (sym c.is_entry.ensures ∙ c.if-is_entry.true)))

pub returns-then-is_definition : goal.returns-then-is_definition
returns-then-is_definition c =
    sym (fault_definition _ _ _ _ _
    (sym c.is_entry.ensures ∙ c.if-is_entry.false)
    (sym c.is_definition.ensures ∙ c.if-is_definition.true))

pub returns : goal.returns
returns c =
    let a = c.args in
    ap (λ b. b && leb a.line a.gate) c.is_input.ensures
    ∙ sym (fault_other _ _ _ _ _
    (sym c.is_entry.ensures ∙ c.if-is_entry.false)
    (sym c.is_definition.ensures ∙ c.if-is_definition.false))
