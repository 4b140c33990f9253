-- `lift_kept::short` meets its contract: refusal 9, at 0.
-- Assumes nothing.
use mathlib.Core.Path.{◌∙◌, ap}
use Rattle.refusals.specs.declared.Verdict.{Verdict}
use Rattle.refusals.specs.Outcome.{refused}
use Rattle.prenex.specs.Outcome.{no_sizes}
use Rattle.lift_kept.proofs.short.Goals as goal

pub returns : goal.returns
returns c = c.refused.ensures ∙ ap (λ (v : Verdict). refused v no_sizes) c.refusal.ensures
