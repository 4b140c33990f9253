-- `prefix_writer::write_words` meets its contract.
-- Assumes nothing.
use native.Mathlib.Omega.{arith}
use lib.ListN.{length-set}
use Rattle.lists.proofs.Overwrite.{set_three}
use Rattle.prefix_writer.proofs.write_words.Goals as goal

pub bounds-prefix-at-2 : goal.bounds-prefix-at-2
bounds-prefix-at-2 c = simp length-set (omega arith)

pub bounds-prefix-at-3 : goal.bounds-prefix-at-3
bounds-prefix-at-3 c = simp length-set (omega arith)

pub returns : goal.returns
returns c = rw c.kind.ensures (set_three _ _ _ _ _ c.requires.0)
