-- `report_text::put_name_line` meets its contract.
-- Assumes nothing.
use native.Mathlib.Omega.{arith}
use Rattle.growth.specs.Lines.{line_figures}
use Rattle.name_lines.proofs.Walk.{part_length}
use Rattle.report_text.proofs.put_name_line.Goals as goal

pub returns : goal.returns
unfolding line_figures
returns c =
    let put = c.put_line.ensures in
    (put.0, omega (arith, put.1, c.requires, part_length c.args.names.now c.args.name.from c.args.name.end c.requires.2))
