-- `qcir_table_sizes::add_output` meets its contract: by its parts.
-- Assumes nothing.
use mathlib.Core.Path.{◌∙◌, ap}
use mir.Val.{bool_byte}
use Rattle.qcir_table_sizes.proofs.Passes.{byte_is, output_is}
use Rattle.qcir_table_sizes.proofs.add_output.Goals as goal

pub returns : goal.returns
returns c =
    let a = c.args in
    output_is a.role a.gate a.s _ _ (c.from-variable.ensures ∙ byte_is _) (c.from-negation.ensures ∙ ap bool_byte c.is_minus.ensures ∙ byte_is _)
