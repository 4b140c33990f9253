-- `qdimacs_prefix::put_free_name` meets its contract.
-- Assumes nothing.
use native.Mathlib.Omega.{arith}
use Rattle.qdimacs_prefix.proofs.Steps.{flag_none, flag_put}
use Rattle.qdimacs_prefix.proofs.put_free_name.Goals as goal

pub returns-then-flag-ne-FREE : goal.returns-then-flag-ne-FREE
returns-then-flag-ne-FREE c =
    record {
      goes = search flag_none;
      at_bound = omega arith;
    }

pub returns : goal.returns
returns c =
    record {
      goes = search flag_put;
      at_bound = omega arith;
    }
