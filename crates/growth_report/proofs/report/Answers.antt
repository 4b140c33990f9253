-- `growth_report::report` meets its contract.
-- Assumes nothing.
use mathlib.Core.Path.{sym}
use lib.Seq.{length-take-le}
use Rattle.growth_report.proofs.Accepted.{each_line}
use native.Mathlib.Omega.{arith}
use Rattle.growth_report.proofs.report.Goals as goal

pub slice_bounds-print_report-end : goal.slice_bounds-print_report-end
slice_bounds-print_report-end c = sym (length-take-le _ _ (omega (arith, c.measure_files-count.auto, c.measure_files-count.ensures.0)))

pub print_report-requires : goal.print_report-requires
print_report-requires c = each_line _ _ _ c.requires c.measure_files-count.ensures.1 (omega (arith, c.measure_files-count.auto, c.measure_files-count.ensures.0))
