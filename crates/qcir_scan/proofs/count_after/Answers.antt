-- `qcir_scan::count_after` meets its contract.
-- Assumes nothing.
use mathlib.Core.Path.{sym}
use borrow.Author.Tests.{eq-eqb, ne_eqb}
use Rattle.lists.specs.Choice.{pick_yes, pick_no}
use Rattle.qcir_scan.specs.Held.{count_after}
use Rattle.qcir_scan.proofs.count_after.Goals as goal

pub returns-then-role-eq0 : goal.returns-then-role-eq0
unfolding count_after
returns-then-role-eq0 c = sym (pick_yes _ _ _ (eq-eqb _ _ c.if-role-eq0.true))

pub returns : goal.returns
unfolding count_after
returns c = sym (pick_no _ _ _ (ne_eqb _ _ c.if-role-eq0.false))
