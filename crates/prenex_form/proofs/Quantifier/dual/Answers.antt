-- `prenex_form::Quantifier::dual` meets its contract.
-- Assumes nothing.
use mathlib.Core.Path.{refl}
use Rattle.formula.specs.Node.{dual}
use Rattle.prenex_form.proofs.Quantifier.dual.Goals as goal

pub returns-in-Exists : goal.returns-in-Exists
unfolding dual
returns-in-Exists c = rw c.in-Exists.is refl

pub returns-in-ForAll : goal.returns-in-ForAll
unfolding dual
returns-in-ForAll c = rw c.in-ForAll.is refl
