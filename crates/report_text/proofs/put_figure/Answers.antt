-- `report_text::put_figure` meets its contract.
-- Assumes nothing.
use native.Mathlib.Omega.{arith}
use Rattle.texts.proofs.Put.{put_then}
use Rattle.report_text.specs.Report.{figure_text}
use Rattle.report_text.proofs.put_figure.Goals as goal

pub returns : goal.returns
unfolding figure_text
returns c =
    let space = c.put_word-next.ensures in
    let number = c.put_wide_number.ensures in
    (put_then space number.put, omega (arith, space.counted, number.upper_bound))
