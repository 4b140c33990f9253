-- `qdimacs_prefix::put_numbers` meets its contract. The invariant: the numbers below x are put.
-- Assumes nothing.
use mathlib.Core.Path.{◌≡◌}
use native.Mathlib.Omega.{arith}
use Rattle.qdimacs_prefix.proofs.Steps.{numbers_none, numbers_next}
use Rattle.qdimacs_prefix.proofs.put_numbers.Goals as goal

pub loop-x-init : goal.loop-x-init
loop-x-init c = record { bound = omega arith; put = search numbers_none }

pub put_name-next-requires : goal.put_name-next-requires
put_name-next-requires c = (omega arith, omega arith)

pub loop-x-preserved : goal.loop-x-preserved
loop-x-preserved c = record { bound = omega arith; put = search numbers_next }

pub returns : goal.returns
returns c =
    let l = c.loop-x in
    let e : l.x ≡ c.args.end = omega arith in record {
      loose = rw e at l.invariant.put;
      upper_bound = omega (arith, e, l.invariant.bound);
    }
