-- `qcir_gates::count_use` meets its contract: the token is no use, or one more is stored at its number.
-- Assumes nothing.
use mathlib.Core.Path.{sym, ◌∙◌}
use native.Mathlib.Omega.{arith}
use Rattle.qcir_gates.proofs.Passes.{more_where, no_store}
use Rattle.qcir_gates.proofs.count_use.Goals as goal

pub returns-then-not-is_use : goal.returns-then-not-is_use
returns-then-not-is_use c =
    λ x. let a = c.args in
    no_store a.uses.now a.number _ _ (sym c.is_use.ensures ∙ c.if-not-is_use.true) x

pub returns : goal.returns
returns c =
    let a = c.args in
    more_where a.uses.now a.number _ _ (sym c.is_use.ensures ∙ c.if-not-is_use.false) (omega arith) c.one_more.ensures
