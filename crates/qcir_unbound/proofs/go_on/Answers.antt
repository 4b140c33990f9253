-- `qcir_unbound::go_on` meets its contract.
-- Assumes nothing.
use mathlib.Core.Path.{sym, ◌∙◌}
use native.Mathlib.Omega.{arith}
use Rattle.qcir_unbound.proofs.Within.{judged_is, entered_is, bound_is, passed_is}
use Rattle.qcir_unbound.proofs.go_on.Goals as goal

pub returns-then-token-eq0 : goal.returns-then-token-eq0
returns-then-token-eq0 c = judged_is c.requires _ (sym c.is_use.ensures ∙ c.if-is_use.true) c.if-token-eq0.true _ c.judge.ensures c.pass.ensures

pub returns-then-is_use : goal.returns-then-is_use
returns-then-is_use c = entered_is c.requires _ (sym c.is_use.ensures ∙ c.if-is_use.true) c.if-token-eq0.false c.move_to.ensures

pub returns-then-is_bound : goal.returns-then-is_bound
returns-then-is_bound c = bound_is c.requires _ (sym c.is_use.ensures ∙ c.if-is_use.false) (sym c.is_bound.ensures ∙ c.if-is_bound.true) (omega arith) c.move_to-then-is_bound.ensures

pub returns : goal.returns
returns c = passed_is c.requires _ (sym c.is_use.ensures ∙ c.if-is_use.false) (sym c.is_bound.ensures ∙ c.if-is_bound.false) c.pass-2.ensures
