-- `remove_empty_blocks::write_left` meets its contract. The invariant: what is left of the nodes passed stands at the start of the
-- buffer, `at` nodes of it, and their new indices in the array.
-- Assumes nothing.
use mathlib.Core.Path.{◌≡◌}
use Rattle.lists.specs.Parts.{up_to, overwrite}
use Rattle.empty_blocks.specs.Removal.{left_below, left_of}
use Rattle.remove_empty_blocks.specs.Steps.{NewIndices}
use Rattle.remove_empty_blocks.proofs.write_left.Given as goal

abbrev pub invariant-loop-i : goal.invariant-loop-i
invariant-loop-i l = (l.at ≡ left_below l.words l.i) × NewIndices l.words l.indices l.i
    × (l.nodes ≡ overwrite l.initial.nodes 0 (up_to (left_of l.words) l.i))
