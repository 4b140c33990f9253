-- `text_answers::put_measure` meets its contract.
-- Assumes nothing.
use mathlib.Core.Path.{sym, ap}
use Rattle.refusals.specs.declared.Verdict.{Verdict}
use Rattle.refusals.specs.Outcome.{AnswerWith}
use Rattle.prenex_form.specs.declared.Sizes.{Sizes}
use Rattle.text_answers.specs.Words.{sizes_from, measure_answer}
use Rattle.text_answers.proofs.put_measure.Goals as goal

-- an answer with these sizes
abbrev with : Sizes → Verdict → AnswerWith Sizes
with sizes v = record { verdict = v; sizes = sizes }

pub returns : goal.returns
unfolding sizes_from measure_answer
returns c = ap (with _) (sym c.requires)
