-- `wakubinryo_qcir::wakubinryo_write_qdimacs` meets its contract.
-- Assumes nothing.
use mathlib.Core.Path.{◌≡◌}
use Rattle.qdimacs_writer.specs.Writing.{write_outcome, ClausesWritten, RoomSuffices}
use Rattle.form_texts.proofs.Texts.{write_said}
use Rattle.wakubinryo_qcir.proofs.wakubinryo_write_qdimacs.Goals as goal

pub returns : goal.returns
returns c =
    let ns = c.args.nodes.now in
    let ps = c.args.prefix.now in
    let xs = c.args.variables.now in
    let before = c.args.text.now in
    let said = c.write.ensures in
    let w = write_said (λ o. (o ≡ write_outcome ns ps xs before) × (ClausesWritten ns ps xs o × RoomSuffices ns ps xs before o)) _ c.write.result _
    c.put_text_answer.ensures (said.outcome, (said.written, said.room)) in
    record { outcome = w.0; written = w.1.0; room = w.1.1 }
