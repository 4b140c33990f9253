-- `free_variables::write_flagged` meets its contract. The invariant: the numbers passed whose flag is set stand at the start of the buffer, and `at` is behind them.
-- Assumes nothing.
use mathlib.Core.Path.{◌≡◌}
use lib.ListN.{length}
use Rattle.lists.specs.Parts.{overwrite}
use Rattle.free_variables.proofs.Listing.{flagged_below}
use Rattle.free_variables.proofs.write_flagged.Given as goal

abbrev pub invariant-loop-x : goal.invariant-loop-x
invariant-loop-x l = (l.at ≡ length (flagged_below l.flags l.x)) × (l.names ≡ overwrite l.initial.names 0 (flagged_below l.flags l.x))
