-- `qcir_unbound::is_unmarked` meets its contract.
-- Assumes nothing.
use mathlib.Core.Path.{ap}
use mathlib.Core.Bool.{not, ◌&&◌}
use lib.Dec.{eqb}
use Rattle.qcir_unbound.proofs.is_unmarked.Goals as goal

pub returns : goal.returns
returns c = ap (λ u. u && (eqb c.args.gate 0 && not c.args.marked)) c.is_use.ensures
