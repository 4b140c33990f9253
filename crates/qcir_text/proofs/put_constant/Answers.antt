-- `qcir_text::put_constant` meets its contract.
-- Assumes nothing.
use native.Mathlib.Omega.{arith}
use Rattle.qcir_text.proofs.Lines.{put_constant_line}
use Rattle.qcir_text.proofs.put_constant.Goals as goal

pub returns : goal.returns
returns c =
    record {
      put = put_constant_line _ c.put_number-next.ensures.put c.put_word.ensures;
      upper_bound = omega arith;
    }
