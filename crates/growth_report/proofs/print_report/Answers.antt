-- `growth_report::print_report` meets its contract.
-- Assumes nothing.
use mathlib.Core.Path.{sym}
use Prim.Native.Nat.{ℕ}
use lib.ListN.{length-replicate}
use lib.Seq.{length-take-le}
use native.Mathlib.Omega.{arith}
use Rattle.growth_report.proofs.print_report.Goals as goal

pub write_report-n-requires : goal.write_report-n-requires
write_report-n-requires c = (c.requires, omega (arith, length-replicate {A = ℕ} 103384 0))

pub slice_bounds-write_all-end : goal.slice_bounds-write_all-end
slice_bounds-write_all-end c = sym (length-take-le _ _ c.write_report-n.ensures.0)
