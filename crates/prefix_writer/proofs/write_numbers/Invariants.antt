-- `prefix_writer::write_numbers` meets its contract. The loop's invariant: what is left of the numbers goes in from k on.
-- Assumes nothing.
use Rattle.lists.specs.Parts.{numbers}
use Rattle.prefix_writer.proofs.Writing.{Left, numbers_left}
use Rattle.prefix_writer.proofs.write_numbers.Given as goal

abbrev pub invariant-loop-k : goal.invariant-loop-k
invariant-loop-k l = Left l.initial.out l.out l.k (numbers l.first l.count) (numbers_left l.first l.count l.k)
