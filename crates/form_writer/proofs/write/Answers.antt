-- `form_writer::write` meets its contract.
-- Assumes nothing.
use Rattle.form_writer.proofs.Formats.{as_qcir, as_qdimacs}
use Rattle.form_writer.proofs.write.Goals as goal

pub returns-in-Qcir : goal.returns-in-Qcir
returns-in-Qcir c =
    as_qcir c.args.format c.args.nodes.now c.args.prefix.now c.args.variables.now c.args.out.now _
    c.in-Qcir.is c.write.ensures.outcome

pub returns-in-Qdimacs : goal.returns-in-Qdimacs
returns-in-Qdimacs c =
    as_qdimacs c.args.format c.args.nodes.now c.args.prefix.now c.args.variables.now c.args.out.now _
    c.in-Qdimacs.is c.write-in-Qdimacs.ensures.outcome
