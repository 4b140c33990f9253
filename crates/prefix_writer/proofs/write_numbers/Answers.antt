-- `prefix_writer::write_numbers` meets its contract. The loop's invariant: what is left of the numbers goes in from k on.
-- Assumes nothing.
use Rattle.prefix_writer.proofs.Writing.{numbers_start, numbers_step, numbers_end}
use Rattle.prefix_writer.proofs.write_numbers.Goals as goal

pub loop-k-init : goal.loop-k-init
loop-k-init c = numbers_start _ _ _

pub loop-k-preserved : goal.loop-k-preserved
loop-k-preserved c = numbers_step _ _ _ _ _ c.loop-k.invariant c.requires.1 c.loop-k-test.true

pub returns : goal.returns
returns c = numbers_end _ _ _ _ _ c.loop-k.invariant c.loop-k-test.false
