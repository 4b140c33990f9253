-- `report_text::put_lines` meets its contract. The loop's invariant: the lines before line i are put.
-- Assumes nothing.
use Rattle.report_text.proofs.Lines.{PutBefore}
use Rattle.report_text.proofs.put_lines.Given as goal

abbrev pub invariant-loop-i : goal.invariant-loop-i
invariant-loop-i l = PutBefore l.initial.out l.names l.lines l.from l.i l.out l.at
