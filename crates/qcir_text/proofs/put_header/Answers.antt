-- `qcir_text::put_header` meets its contract.
-- Assumes nothing.
use Rattle.qcir_text.specs.Text.{sign_text, signs_text}
use Rattle.qcir_text.proofs.put_header.Goals as goal

pub returns : goal.returns
unfolding signs_text sign_text
returns c =
    record {
      put = c.put_word.ensures;
      value = c.put_word.ensures.counted;
    }
