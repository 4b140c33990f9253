-- `text_answers::put_lift` meets its contract.
-- Assumes nothing.
use mathlib.Core.Path.{sym, ap}
use Rattle.refusals.specs.declared.Verdict.{Verdict}
use Rattle.refusals.specs.Outcome.{AnswerWith}
use Rattle.text_answers.specs.Answers.{TextSizes}
use Rattle.text_answers.specs.Words.{sizes_from, lift_answer}
use Rattle.text_answers.proofs.put_lift.Goals as goal

-- an answer with these sizes
abbrev with : TextSizes → Verdict → AnswerWith TextSizes
with sizes v = record { verdict = v; sizes = sizes }

pub returns : goal.returns
unfolding sizes_from lift_answer
returns c = ap (with _) (sym c.requires)
