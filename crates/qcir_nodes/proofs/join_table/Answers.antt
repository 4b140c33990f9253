-- `qcir_nodes::join_table` meets its contract.
-- Assumes nothing.
use mathlib.Core.Path.{sym, ◌∙◌}
use borrow.Author.Tests.{eq-eqb, ne_eqb}
use Rattle.lists.specs.Choice.{pick_yes, pick_no}
use Rattle.qcir_nodes.specs.Nodes.{join_table}
use Rattle.qcir_nodes.proofs.join_table.Goals as goal

pub returns-then-kind-eq-AND_GATE : goal.returns-then-kind-eq-AND_GATE
unfolding join_table
returns-then-kind-eq-AND_GATE c = sym (pick_yes _ _ _ (eq-eqb _ _ c.if-kind-eq-AND_GATE.true))

pub returns-then-kind-eq-OR_GATE : goal.returns-then-kind-eq-OR_GATE
unfolding join_table
returns-then-kind-eq-OR_GATE c = sym (pick_no _ _ _ (ne_eqb _ _ c.if-kind-eq-AND_GATE.false) ∙ pick_yes _ _ _ (eq-eqb _ _ c.if-kind-eq-OR_GATE.true))

pub returns : goal.returns
unfolding join_table
returns c = sym (pick_no _ _ _ (ne_eqb _ _ c.if-kind-eq-AND_GATE.false) ∙ pick_no _ _ _ (ne_eqb _ _ c.if-kind-eq-OR_GATE.false))
