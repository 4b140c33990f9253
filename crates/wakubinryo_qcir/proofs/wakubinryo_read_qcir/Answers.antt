-- `wakubinryo_qcir::wakubinryo_read_qcir` meets its contract.
-- Assumes nothing.
use Rattle.qcir.proofs.Answers.{reading_plain}
use Rattle.wakubinryo_qcir.proofs.Answers.{read_said}
use Rattle.wakubinryo_qcir.proofs.wakubinryo_read_qcir.Goals as goal

pub put_answer-requires : goal.put_answer-requires
put_answer-requires c = reading_plain _ _ _ _ c.read.ensures.reading

pub returns : goal.returns
returns c =
    let said = c.read.ensures in
    let w = read_said c.args.text.now c.args.words.now c.args.list.now _ _ c.read.result _ c.put_answer.ensures (said.reading, (said.only, said.table)) in
    record { reading = w.0; only = w.1.0; table = w.1.1 }
