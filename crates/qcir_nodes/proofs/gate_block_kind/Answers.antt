-- `qcir_nodes::gate_block_kind` meets its contract.
-- Assumes nothing.
use mathlib.Core.Path.{sym}
use borrow.Author.Tests.{eq-eqb, ne_eqb}
use Rattle.lists.specs.Choice.{pick_yes, pick_no}
use Rattle.qcir_nodes.specs.Nodes.{gate_block_kind}
use Rattle.qcir_nodes.proofs.gate_block_kind.Goals as goal

pub returns-then-kind-eq-EXISTS_GATE : goal.returns-then-kind-eq-EXISTS_GATE
unfolding gate_block_kind
returns-then-kind-eq-EXISTS_GATE c = sym (pick_yes _ _ _ (eq-eqb _ _ c.if-kind-eq-EXISTS_GATE.true))

pub returns : goal.returns
unfolding gate_block_kind
returns c = sym (pick_no _ _ _ (ne_eqb _ _ c.if-kind-eq-EXISTS_GATE.false))
