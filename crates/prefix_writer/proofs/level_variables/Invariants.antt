-- `prefix_writer::level_variables` meets its contract. The loop's invariant: the parts of the level's blocks before the one
-- that is left are written. The measure is how many blocks are left.
-- Assumes nothing.
use lib.ListN.{length}
use Rattle.arrays.specs.Chains.{linked}
use Rattle.arrays.specs.Blocks.{table}
use Rattle.prefix_writer.specs.Parts.{part_of}
use Rattle.prefix_writer.proofs.Levels.{Walked}
use Rattle.prefix_writer.proofs.level_variables.Given as goal

abbrev pub invariant-loop-left : goal.invariant-loop-left
invariant-loop-left l = Walked (table l.blocks) l.level (part_of (table l.blocks) l.part) l.initial.out l.out l.at l.left

abbrev pub decreases-loop-left : goal.decreases-loop-left
decreases-loop-left l = length (linked (table l.blocks) l.level l.left)
