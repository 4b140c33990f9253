-- `qcir_gates::mark_gate` meets its contract: the token is no definition, or the store is made at its number.
-- Assumes nothing.
use mathlib.Core.Path.{refl, sym, ◌∙◌}
use native.Mathlib.Omega.{arith}
use Rattle.qcir_gates.proofs.Passes.{store_where, no_store}
use Rattle.qcir_gates.proofs.mark_gate.Goals as goal

pub returns-then-not-is_definition : goal.returns-then-not-is_definition
returns-then-not-is_definition c =
    let a = c.args in
    no_store a.gates.now a.number _ _ (sym c.is_definition.ensures ∙ c.if-not-is_definition.true)

pub returns : goal.returns
returns c =
    let a = c.args in
    store_where a.gates.now _ a.number _ _ (sym c.is_definition.ensures ∙ c.if-not-is_definition.false) (omega arith) refl
