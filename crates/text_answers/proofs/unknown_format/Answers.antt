-- `text_answers::unknown_format` meets its contract.
-- Assumes nothing.
use mathlib.Core.Path.{◌∙◌, ap}
use Rattle.refusals.specs.declared.Verdict.{Verdict}
use Rattle.refusals.specs.Outcome.{refused}
use Rattle.text_answers.specs.Answers.{no_text_sizes}
use Rattle.text_answers.proofs.unknown_format.Goals as goal

pub returns : goal.returns
unfolding refused
returns c = c.refused.ensures ∙ ap (λ (v : Verdict). refused v no_text_sizes) c.refusal.ensures
