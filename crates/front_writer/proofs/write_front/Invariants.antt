-- `front_writer::write_front` meets its contract. The loop's invariant: what stands in front of the blocks passed is written.
-- Assumes nothing.
use mathlib.Core.Path.{◌≡◌}
use Prim.Native.Nat.{◌*◌}
use lib.ListN.{length}
use Rattle.formula.specs.Words.{table_of}
use Rattle.front_writer.specs.Written.{front_words, front_names, WrittenTo}
use Rattle.front_writer.proofs.write_front.Given as goal

abbrev pub invariant-loop-k : goal.invariant-loop-k
invariant-loop-k l =
    ((3 * l.at.blocks ≡ length (front_words (table_of l.words l.list) l.k)) × (l.at.names ≡ length (front_names (table_of l.words l.list) l.k)))
    × WrittenTo (table_of l.words l.list) l.k l.initial.prefix l.initial.variables l.prefix l.variables
