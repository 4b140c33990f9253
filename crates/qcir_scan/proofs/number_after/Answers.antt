-- `qcir_scan::number_after` meets its contract.
-- Assumes nothing.
use mathlib.Core.Path.{sym}
use borrow.Author.Tests.{eq-eqb, ne_eqb}
use Rattle.lists.specs.Choice.{pick_yes, pick_no}
use Rattle.qcir_scan.specs.Held.{number_after}
use Rattle.qcir_scan.proofs.number_after.Goals as goal

pub returns-then-act-eq-NAME : goal.returns-then-act-eq-NAME
unfolding number_after
returns-then-act-eq-NAME c = sym (pick_yes _ _ _ (eq-eqb _ _ c.if-act-eq-NAME.true))

pub returns : goal.returns
unfolding number_after
returns c = sym (pick_no _ _ _ (ne_eqb _ _ c.if-act-eq-NAME.false))
