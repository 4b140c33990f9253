-- `qcir_text::put_gate` meets its contract.
-- Assumes nothing.
use native.Mathlib.Omega.{arith}
use Rattle.texts.proofs.Put.{put_then}
use Rattle.qcir_text.proofs.put_gate.Goals as goal

pub returns : goal.returns
returns c =
    record {
      put = put_then c.put_number-next.ensures.put (put_then c.put_word-next.ensures c.put_inputs.ensures.put);
      upper_bound = omega (arith, c.put_number-next.ensures.upper_bound, c.put_word-next.ensures.counted, c.put_inputs.ensures.upper_bound);
    }
