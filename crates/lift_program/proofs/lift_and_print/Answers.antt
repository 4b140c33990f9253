-- `lift_program::lift_and_print` meets its contract.
-- Assumes nothing.
use Prim.Native.Nat.{ℕ}
use mathlib.Core.Path.{sym}
use lib.ListN.{length-replicate}
use Rattle.lift_program.proofs.lift_and_print.Goals as goal

pub slice_bounds-lift_to-end : goal.slice_bounds-lift_to-end
slice_bounds-lift_to-end c = sym (length-replicate {A = ℕ} 2711620 0)
