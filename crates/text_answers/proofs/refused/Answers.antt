-- `text_answers::refused` meets its contract.
-- Assumes nothing.
use mathlib.Core.Path.{ap}
use Rattle.refusals.specs.Outcome.{AnswerWith, refused}
use Rattle.prenex_form.specs.declared.Sizes.{Sizes}
use Rattle.text_answers.specs.Answers.{no_text_sizes}
use Rattle.text_answers.proofs.refused.Goals as goal

pub returns : goal.returns
unfolding refused no_text_sizes
returns c = ap (λ (a : AnswerWith Sizes). record { verdict = c.args.verdict; sizes = record { bytes = 0; table = a.sizes } }) c.refused-measured.ensures
