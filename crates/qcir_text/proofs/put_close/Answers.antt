-- `qcir_text::put_close` meets its contract.
-- Assumes nothing.
use Rattle.lists.specs.Choice.{pick}
use Rattle.qcir_text.specs.Text.{is_byte, word_text, sign_text, signs_text}
use Rattle.qcir_text.proofs.put_close.Goals as goal

pub returns : goal.returns
unfolding signs_text sign_text word_text is_byte pick
returns c =
    record {
      put = c.put_word.ensures;
      value = c.put_word.ensures.counted;
    }
