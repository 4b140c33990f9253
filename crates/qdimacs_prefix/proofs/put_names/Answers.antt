-- `qdimacs_prefix::put_names` meets its contract. The invariant: the first names are put.
-- Assumes nothing.
use native.Mathlib.Omega.{arith}
use Rattle.qdimacs_prefix.proofs.Steps.{names_none, names_next, names_all}
use Rattle.qdimacs_prefix.proofs.put_names.Goals as goal

pub loop-name-init : goal.loop-name-init
loop-name-init c = record { bound = omega arith; put = search names_none }

pub put_name-next-requires : goal.put_name-next-requires
put_name-next-requires c = (omega arith, c.requires.2 _ c.loop-name-test.true)

pub loop-name-preserved : goal.loop-name-preserved
loop-name-preserved c = record { bound = omega arith; put = search names_next }

pub returns : goal.returns
returns c =
    record {
      loose = search names_all;
      upper_bound = omega arith;
    }
