-- `qcir_literals::turned` meets its contract.
-- Assumes nothing.
use native.Mathlib.Omega.{arith}
use mir.Val.{bool_byte}
use Rattle.qcir_literals.proofs.Codes.{byte_low, xor_word, of_turned}
use Rattle.qcir_literals.proofs.turned.Goals as goal

pub returns : goal.returns
returns c =
    let a = c.args in
    let e = xor_word a.literal (bool_byte a.sign) (byte_low a.sign) in record {
      result_value = rw e (of_turned a.literal a.sign);
      result_value_2 = rw e (omega arith);
    }
