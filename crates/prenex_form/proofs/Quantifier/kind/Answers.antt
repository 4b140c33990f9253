-- `prenex_form::Quantifier::kind` meets its contract.
-- Assumes nothing.
use mathlib.Core.Path.{refl}
use Rattle.formula.specs.Form.{kind_of}
use Rattle.prenex_form.proofs.Quantifier.kind.Goals as goal

pub returns-in-Exists : goal.returns-in-Exists
unfolding kind_of
returns-in-Exists c = rw c.in-Exists.is refl

pub returns-in-ForAll : goal.returns-in-ForAll
unfolding kind_of
returns-in-ForAll c = rw c.in-ForAll.is refl
