-- `qcir_gates::one_more` meets its contract: the first use, or one more.
-- Assumes nothing.
use mathlib.Core.Path.{sym}
use borrow.Author.Tests.{eq-eqb, ne_eqb}
use Rattle.lists.specs.Choice.{pick_yes, pick_no}
use Rattle.qcir_gates.proofs.one_more.Goals as goal

pub returns-then-uses-eq0 : goal.returns-then-uses-eq0
returns-then-uses-eq0 c = sym (pick_yes _ _ _ (eq-eqb _ 0 c.if-uses-eq0.true))

pub returns : goal.returns
returns c = sym (pick_no _ _ _ (ne_eqb _ 0 c.if-uses-eq0.false))
