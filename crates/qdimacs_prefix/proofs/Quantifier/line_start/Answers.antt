-- `qdimacs_prefix::Quantifier::line_start` meets its contract.
-- Assumes nothing.
use mathlib.Core.Path.{refl}
use Rattle.lists.specs.Choice.{pick}
use Rattle.formula.specs.Form.{quantifier_of}
use Rattle.qdimacs.specs.Spelling.{quantifier_word}
use Rattle.qdimacs_prefix.specs.Lines.{start_text}
use Rattle.qdimacs_prefix.proofs.Quantifier.line_start.Goals as goal

pub returns-in-Exists : goal.returns-in-Exists
unfolding start_text quantifier_word quantifier_of pick
returns-in-Exists c = rw c.in-Exists.is refl

pub returns-in-ForAll : goal.returns-in-ForAll
unfolding start_text quantifier_word quantifier_of pick
returns-in-ForAll c = rw c.in-ForAll.is refl
