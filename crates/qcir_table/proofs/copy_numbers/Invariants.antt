-- `qcir_table::copy_numbers` meets its contract. The loop's invariant: the first k numbers are copied.
-- Assumes nothing.
use mathlib.Core.Path.{◌≡◌}
use lib.ListN.{take}
use Rattle.lists.specs.Parts.{overwrite}
use Rattle.qcir_table.proofs.copy_numbers.Given as goal

abbrev pub invariant-loop-k : goal.invariant-loop-k
invariant-loop-k l = l.list ≡ overwrite l.initial.list l.at (take l.k l.numbers)
