-- `growth_report::write_report` meets its contract.
-- Assumes nothing.
use Rattle.form_texts.specs.Writing.{answer_of}
use Rattle.report_text.proofs.Reports.{report_whole}
use Rattle.growth_report.proofs.write_report.Goals as goal

pub returns : goal.returns
unfolding answer_of
returns c =
    let pre = c.requires in
    let reports = c.report-answer.ensures in
    (reports.within, report_whole _ _ _ _ pre.0 pre.1 _ reports)
