-- `report_text::write` meets its contract.
-- Assumes nothing.
use mathlib.Core.Path.{refl, ap}
use native.Mathlib.Omega.{arith}
use Rattle.growth.specs.declared.Totals.{Totals}
use Rattle.refusals.specs.Outcome.{AnswerWith}
use Rattle.report_text.proofs.Reports.{report_short, report_done}
use Rattle.report_text.proofs.write.Goals as goal

pub returns-then-out-bytes : goal.returns-then-out-bytes
returns-then-out-bytes c =
    let totals = ap (λ (a : AnswerWith Totals). a.sizes) c.total-totalled.ensures in
    let put = c.put_report-bytes.ensures in
    let no = c.refused.ensures in
    report_short _ _ c.args.out.now _ c.requires _ totals _ _ _ _ put.0 refl (omega (arith, c.if-out-bytes.true)) put.1 no.0 no.1 no.2

pub returns : goal.returns
returns c =
    let totals = ap (λ (a : AnswerWith Totals). a.sizes) c.total-totalled.ensures in
    let put = c.put_report-bytes.ensures in
    report_done _ _ c.args.out.now _ c.requires _ totals _ _ _ _ _ put.0 refl (omega (arith, c.if-out-bytes.false)) c.put_report.ensures.0
