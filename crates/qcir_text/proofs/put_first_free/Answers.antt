-- `qcir_text::put_first_free` meets its contract.
-- Assumes nothing.
use native.Mathlib.Omega.{arith}
use Rattle.lists.specs.Choice.{pick}
use Rattle.qcir.specs.Spelling.{free_word}
use Rattle.qcir_text.specs.Text.{is_byte, word_text, sign_text, signs_text}
use Rattle.qcir_text.proofs.Lines.{put_opened}
use Rattle.qcir_text.proofs.put_first_free.Goals as goal

pub returns : goal.returns
unfolding signs_text sign_text word_text is_byte pick
returns c =
    record {
      put = put_opened free_word _ c.put_word-next.ensures c.put_number.ensures.put;
      upper_bound = omega arith;
    }
