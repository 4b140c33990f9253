-- `qcir_text::put_xor` meets its contract.
-- Assumes nothing.
use native.Mathlib.Omega.{arith}
use Rattle.texts.proofs.Put.{put_as}
use Rattle.qcir_text.proofs.Texts.{xor_text}
use Rattle.qcir_text.proofs.put_xor.Goals as goal

pub returns : goal.returns
returns c = record { put = put_as (xor_text _ _ _) c.put_gate.ensures.put; upper_bound = omega arith }
