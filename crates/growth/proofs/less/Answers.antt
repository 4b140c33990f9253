-- `growth::less` meets its contract: products of 32-bit numbers fit.
-- Assumes nothing.
use native.Mathlib.Nat.{mul-le-mul}
use native.Mathlib.Omega.{arith}
use borrow.Author.Tests.{ltb-true, ltb-false}
use Rattle.growth.proofs.MostGrown.{compared}
use Rattle.growth.proofs.less.Goals as goal

pub overflow_mul-result : goal.overflow_mul-result
overflow_mul-result c =
    let pre = c.requires in
    let most = mul-le-mul pre.0.written pre.1.input in omega arith

pub overflow_mul-result-2 : goal.overflow_mul-result-2
overflow_mul-result-2 c =
    let pre = c.requires in
    let most = mul-le-mul pre.1.written pre.0.input in omega arith

pub returns : goal.returns
returns c =
    let at = c.args in
    compared at.g at.h _ (λ t. omega (arith, ltb-true)) (λ t. omega (arith, ltb-false))
