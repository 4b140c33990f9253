-- `qcir_text::put_literal` meets its contract.
-- Assumes nothing.
use native.Mathlib.Omega.{arith}
use Rattle.qcir_text.proofs.Lines.{put_signed}
use Rattle.qcir_text.proofs.put_literal.Goals as goal

pub put_number-requires : goal.put_number-requires
put_number-requires c = (omega arith, omega arith)

pub returns : goal.returns
returns c =
    record {
      put = put_signed _ c.put_word.ensures c.put_number.ensures.put;
      upper_bound = omega arith;
    }
