-- `report_text::put_line` meets its contract.
-- Assumes nothing.
use native.Mathlib.Omega.{arith}
use Rattle.report_text.proofs.Pieces.{line_put}
use Rattle.report_text.proofs.put_line.Goals as goal

pub returns : goal.returns
returns c =
    let end = c.put_word.ensures in
    let figures = c.put_figures-after_figures.ensures in
    let word = c.put_word-after_word.ensures in
    (line_put _ _ word figures.0 end, omega (arith, word.counted, figures.1, end.counted))
