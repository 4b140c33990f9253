-- `growth_report::run` meets its contract.
-- Assumes nothing.
use mathlib.Core.Path.{sym}
use lib.Seq.{length-take-le}
use Rattle.growth_report.proofs.Accepted.{kept_accepted}
use Rattle.growth_report.proofs.run.Goals as goal

pub slice_bounds-report-end-2 : goal.slice_bounds-report-end-2
slice_bounds-report-end-2 c = sym (length-take-le _ _ c.read_names-given.ensures.found.0)

pub report-requires : goal.report-requires
report-requires c =
    let read = c.read_names-given.ensures.found.1 in
    kept_accepted _ _ _ read.1 c.if-verdict-ne-ACCEPTED.false
