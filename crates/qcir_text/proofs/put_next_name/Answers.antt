-- `qcir_text::put_next_name` meets its contract.
-- Assumes nothing.
use native.Mathlib.Omega.{arith}
use Rattle.qcir_text.proofs.Lines.{put_comma_name}
use Rattle.qcir_text.proofs.put_next_name.Goals as goal

pub returns : goal.returns
returns c =
    record {
      put = put_comma_name _ c.put_word-next.ensures c.put_number.ensures.put;
      upper_bound = omega arith;
    }
