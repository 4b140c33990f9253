-- `qcir_text::put_inputs` meets its contract.
-- Assumes nothing.
use native.Mathlib.Omega.{arith}
use Rattle.qcir_text.proofs.Lines.{put_inputs_line}
use Rattle.qcir_text.proofs.put_inputs.Goals as goal

pub returns : goal.returns
returns c =
    record {
      put = put_inputs_line _ _ c.put_literal-next.ensures.put c.put_word-next.ensures c.put_literal-next-2.ensures.put
          c.put_close.ensures.put;
      upper_bound = omega arith;
    }
