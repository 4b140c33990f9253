-- `qcir_reader::read_from` meets its contract.
-- Assumes nothing.
use Rattle.refusals.specs.Verdict.{refusal}
use Rattle.qcir_reader.proofs.Stages.{refuses}
use Rattle.qcir_reader.proofs.Texts.{long_reads}
use Rattle.qcir_reader.proofs.read_from.Goals as goal

pub returns-then-text-gt-BYTES : goal.returns-then-text-gt-BYTES
returns-then-text-gt-BYTES c = long_reads c.args.text.now c.args.words.now c.args.list.now _ c.if-text-gt-BYTES.true (refuses _ c.refusal.result (refusal 10 0) c.refusal.ensures c.refused.ensures)
