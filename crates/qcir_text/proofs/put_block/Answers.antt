-- `qcir_text::put_block` meets its contract.
-- Assumes nothing.
use native.Mathlib.Omega.{arith}
use Prim.Native.Nat.{◌<◌}
use lib.ListN.{length}
use Rattle.qcir_text.proofs.Lines.{put_no_line, put_line}
use Rattle.qcir_text.proofs.put_block.Goals as goal

pub returns-then-names-eq0 : goal.returns-then-names-eq0
returns-then-names-eq0 c =
    record {
      put = put_no_line _ _ _ _ (omega arith);
      upper_bound = omega arith;
    }

pub returns : goal.returns
returns c =
    let names = c.args.names.now in
    let some : 0 < length names = omega arith in record {
      put = put_line _ names some c.put_quantifier-next.ensures.put c.put_names-next.ensures.put c.put_close.ensures.put;
      upper_bound = omega arith;
    }
