-- `report_text::put_report` meets its contract.
-- Assumes nothing.
use native.Mathlib.Omega.{arith}
use Rattle.texts.proofs.Put.{put_then}
use Rattle.report_text.proofs.put_report.Goals as goal

pub returns : goal.returns
returns c =
    let lines = c.put_lines-next.ensures in
    let total = c.put_total.ensures in
    (put_then lines.0 total.0, omega (arith, lines.1, total.1))
