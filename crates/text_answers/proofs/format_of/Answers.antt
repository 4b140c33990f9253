-- `text_answers::format_of` meets its contract.
-- Assumes nothing.
use native.Mathlib.Omega.{arith}
use Rattle.text_answers.specs.Formats.{Numbers, number_of}
use Rattle.text_answers.proofs.Formats.{no_format}
use Rattle.text_answers.proofs.format_of.Goals as goal

pub returns-in-1 : goal.returns-in-1
unfolding Numbers number_of
returns-in-1 c = c.in-1.is

pub returns-in-2 : goal.returns-in-2
unfolding Numbers number_of
returns-in-2 c = c.in-2.is

pub returns-in_default : goal.returns-in_default
unfolding Numbers
returns-in_default c = no_format c.args.number (omega arith) (omega arith)
