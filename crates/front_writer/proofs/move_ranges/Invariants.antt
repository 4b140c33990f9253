-- `front_writer::move_ranges` meets its contract. The loop's invariant: the ranges of the blocks passed are moved.
-- Assumes nothing.
use mathlib.Core.Path.{◌≡◌}
use Rattle.lists.specs.Parts.{overwrite}
use Rattle.front_writer.specs.Written.{moved}
use Rattle.front_writer.proofs.move_ranges.Given as goal

abbrev pub invariant-loop-j : goal.invariant-loop-j
invariant-loop-j l = l.prefix ≡ overwrite l.initial.prefix 0 (moved l.j l.by l.initial.prefix)
