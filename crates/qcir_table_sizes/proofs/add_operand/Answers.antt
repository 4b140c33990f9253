-- `qcir_table_sizes::add_operand` meets its contract: by its parts.
-- Assumes nothing.
use mathlib.Core.Bool.{Bool, not}
use mathlib.Core.Path.{◌∙◌, ap}
use mir.Val.{bool_byte}
use Rattle.qcir_table_sizes.proofs.Passes.{byte_is, operand_is}
use Rattle.qcir_table_sizes.proofs.add_operand.Goals as goal

pub returns : goal.returns
returns c =
    let a = c.args in
    operand_is a.role a.gate a.s _ _ _
    (c.from-variable.ensures ∙ ap (λ (b : Bool). bool_byte (not b)) c.is_earlier.ensures ∙ byte_is _)
    (c.from-negation.ensures ∙ ap bool_byte c.is_minus.ensures ∙ byte_is _)
    (c.from-operator.ensures ∙ byte_is _)
