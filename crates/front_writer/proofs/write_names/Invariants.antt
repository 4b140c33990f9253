-- `front_writer::write_names` meets its contract. The loop's invariant: the names passed whose flag is set stand at the start of the buffer,
-- and `at` is behind them.
-- Assumes nothing.
use mathlib.Core.Path.{◌≡◌}
use mathlib.Core.Bool.{false}
use lib.ListN.{length, get_or, take}
use Rattle.kept_prefix.specs.Blocks.{keep}
use Rattle.lists.specs.Parts.{overwrite}
use Rattle.front_writer.proofs.write_names.Given as goal

abbrev pub invariant-loop-x : goal.invariant-loop-x
invariant-loop-x l = (l.at ≡ length (keep (λ x. get_or l.standing x false) (take l.x-index l.names))) × (l.out ≡ overwrite l.initial.out 0 (keep (λ x. get_or l.standing x false) (take l.x-index l.names)))
