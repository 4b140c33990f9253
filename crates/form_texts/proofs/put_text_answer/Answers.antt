-- `form_texts::put_text_answer` meets its contract.
-- Assumes nothing.
use mathlib.Core.Path.{refl}
use Rattle.form_texts.specs.Writing.{answer_of}
use Rattle.form_texts.specs.Words.{text_answer}
use Rattle.form_texts.proofs.put_text_answer.Goals as goal

pub returns : goal.returns
unfolding text_answer answer_of
returns c = refl
