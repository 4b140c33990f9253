-- `report_text::put_total` meets its contract.
-- Assumes nothing.
use native.Mathlib.Omega.{arith}
use Rattle.growth.specs.Totals.{total_figures}
use Rattle.report_text.proofs.put_total.Goals as goal

pub returns : goal.returns
unfolding total_figures
returns c = let put = c.put_line.ensures in (put.0, omega (arith, put.1))
