-- `form_texts::refused` meets its contract.
-- Assumes nothing.
use mathlib.Core.Path.{refl}
use Rattle.refusals.specs.Outcome.{refused}
use Rattle.form_texts.specs.Writing.{answer_of}
use Rattle.form_texts.proofs.refused.Goals as goal

pub returns-in-Matrix : goal.returns-in-Matrix
unfolding answer_of refused
returns-in-Matrix c = rw c.in-Matrix.is refl

pub returns-in-Prefix : goal.returns-in-Prefix
unfolding answer_of refused
returns-in-Prefix c = rw c.in-Prefix.is refl
