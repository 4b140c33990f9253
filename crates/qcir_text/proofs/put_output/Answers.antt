-- `qcir_text::put_output` meets its contract.
-- Assumes nothing.
use native.Mathlib.Omega.{arith}
use Rattle.qcir_text.proofs.Lines.{put_output_line}
use Rattle.qcir_text.proofs.put_output.Goals as goal

pub returns : goal.returns
returns c =
    record {
      put = put_output_line _ c.put_word-next.ensures c.put_literal-next.ensures.put c.put_close.ensures.put;
      upper_bound = omega arith;
    }
