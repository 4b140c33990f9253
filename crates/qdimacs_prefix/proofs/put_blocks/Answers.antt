-- `qdimacs_prefix::put_blocks` meets its contract.
-- Assumes nothing.
use native.Mathlib.Omega.{arith}
use Rattle.qdimacs_prefix.proofs.Whole.{lines_put}
use Rattle.qdimacs_prefix.proofs.put_blocks.Goals as goal

pub returns : goal.returns
returns c =
    record {
      loose = search lines_put;
      upper_bound = omega (
        arith,
        c.put_free-line.ensures.at_bound,
        c.put_prefix-line.ensures.at_bound_2,
        c.put_gates-line.ensures.at_bound,
        c.end_line.ensures.upper_bound,
      );
    }
