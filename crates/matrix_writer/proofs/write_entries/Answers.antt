-- `matrix_writer::write_entries` meets its contract. The loop's invariant: the first k entries' nodes are written.
-- Assumes nothing.
use mathlib.Core.Path.{◌≡◌}
use native.Mathlib.Omega.{arith}
use Rattle.matrix_writer.proofs.Entries.{done_none, done_next}
use Rattle.matrix_writer.proofs.write_entries.Goals.{Start}
use Rattle.matrix_writer.proofs.write_entries.Goals as goal

pub loop-k-init : goal.loop-k-init
loop-k-init c = done_none _ _ _ _

pub loop-k-preserved : goal.loop-k-preserved
loop-k-preserved c =
    done_next _ _ _ _ _ _ _ _ _ c.loop-k.invariant c.write_entry-next.ensures (omega (arith, (goal.at.loop-k-preserved c).Start))

pub returns : goal.returns
returns c =
    let l = c.loop-k in
    let e : l.k ≡ c.args.count = omega arith in record {
      wrote = rw e at l.invariant.1;
      value = omega arith;
    }
