-- `wakubinryo_reports::wakubinryo_report` meets its contract.
-- Assumes nothing.
use Rattle.form_texts.proofs.Texts.{write_said}
use Rattle.report_text.specs.Promise.{Reports}
use Rattle.wakubinryo_reports.proofs.wakubinryo_report.Goals as goal

pub returns : goal.returns
returns c =
    let text = c.args.names.now in
    let ws = c.args.lines.now in
    let before = c.args.out.now in
    write_said (λ o. Reports text ws before o) _ c.report.result _ c.put_text_answer.ensures c.report.ensures
