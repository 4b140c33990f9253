-- `wakubinryo_qcir::wakubinryo_write_qcir` meets its contract.
-- Assumes nothing.
use mathlib.Core.Path.{◌≡◌}
use Rattle.qcir_writer.specs.Writing.{write_outcome, TextWritten, RoomSuffices}
use Rattle.form_texts.proofs.Texts.{write_said}
use Rattle.wakubinryo_qcir.proofs.wakubinryo_write_qcir.Goals as goal

pub returns : goal.returns
returns c =
    let ns = c.args.nodes.now in
    let ps = c.args.prefix.now in
    let xs = c.args.variables.now in
    let before = c.args.text.now in
    let said = c.write.ensures in
    let w = write_said (λ o. (o ≡ write_outcome ns ps xs before) × (TextWritten ns ps xs o × RoomSuffices ns ps xs before o)) _ c.write.result _
    c.put_text_answer.ensures (said.outcome, (said.written, said.room)) in
    record { outcome = w.0; written = w.1.0; room = w.1.1 }
