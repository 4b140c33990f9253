-- `remove_empty_blocks::count_left` meets its contract. The invariant: `left` is how many of the nodes passed stay.
-- Assumes nothing.
use mathlib.Core.Path.{◌≡◌}
use Rattle.empty_blocks.specs.Removal.{left_below}
use Rattle.remove_empty_blocks.proofs.count_left.Given as goal

abbrev pub invariant-loop-i : goal.invariant-loop-i
invariant-loop-i l = l.left ≡ left_below l.words l.i
