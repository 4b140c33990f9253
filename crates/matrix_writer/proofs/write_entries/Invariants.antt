-- `matrix_writer::write_entries` meets its contract. The loop's invariant: the first k entries' nodes are written.
-- Assumes nothing.
use Rattle.matrix_writer.proofs.Entries.{Done}
use Rattle.matrix_writer.proofs.write_entries.Given as goal

abbrev pub invariant-loop-k : goal.invariant-loop-k
invariant-loop-k l = Done l.x l.y l.s l.initial.nodes l.nodes l.next l.k
