-- `qcir_writer::write_lines` meets its contract.
-- Assumes nothing.
use mathlib.Core.Path.{refl}
use native.Mathlib.Omega.{arith}
use Rattle.qcir_writer.proofs.Outcomes.{lines_short, lines_done}
use Rattle.qcir_writer.proofs.write_lines.Goals as goal

pub returns-then-text-bytes : goal.returns-then-text-bytes
returns-then-text-bytes c =
    lines_short c.args.nodes.now c.args.prefix.now c.args.variables.now c.args.text.now _ _ _
    c.requires.accepted_form c.put_text-bytes.ensures refl (omega (arith, c.if-text-bytes.true))

pub returns : goal.returns
returns c =
    lines_done c.args.nodes.now c.args.prefix.now c.args.variables.now c.args.text.now _ _ _ _ _
    c.requires.accepted_form c.put_text-bytes.ensures refl (omega (arith, c.if-text-bytes.false)) c.put_text.ensures
