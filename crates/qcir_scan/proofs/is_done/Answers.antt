-- `qcir_scan::is_done` meets its contract.
-- Assumes nothing.
use mathlib.Core.Path.{ap}
use Prim.Native.Nat.{◌%◌}
use lib.Dec.{eqb}
use Rattle.qcir_scan.proofs.is_done.Goals as goal

pub returns : goal.returns
returns c = ap (λ e. eqb (e % 256) 27) c.entry_at.ensures
