-- `name_lines::check_names` meets its contract. The loop's invariant: the names counted and those left are all names.
-- Assumes nothing.
use mathlib.Core.Path.{sym, ◌∙◌}
use native.Mathlib.Omega.{arith}
use Rattle.name_lines.specs.Names.{judged}
use Rattle.name_lines.proofs.Verdicts.{counted_refused, counted_done}
use Rattle.name_lines.proofs.Walk.{walked_start, walked_below, walked_next, walked_all}
use Rattle.name_lines.proofs.check_names.Goals as goal

pub loop-name-init : goal.loop-name-init
loop-name-init c = walked_start _ _ c.next_name-name.ensures

pub overflow_add-count : goal.overflow_add-count
overflow_add-count c = omega (arith, walked_below _ _ _ _ c.loop-name.invariant c.loop-name-test.true, c.loop-name.invariant.next.within)

pub loop-name-smaller : goal.loop-name-smaller
loop-name-smaller c =
    let name = c.loop-name.invariant.next in
    let next = c.next_name-name-in-loop-name.ensures in
    omega (arith, c.loop-name-test.true, name.within, next.after name.within)

pub loop-name-preserved : goal.loop-name-preserved
loop-name-preserved c = walked_next _ _ _ _ c.loop-name.invariant _ c.loop-name-test.true c.next_name-name-in-loop-name.ensures

pub returns-then-verdict-ne-ACCEPTED : goal.returns-then-verdict-ne-ACCEPTED
returns-then-verdict-ne-ACCEPTED c =
    let all = walked_all _ _ _ _ c.loop-name.invariant (omega (arith, c.loop-name-test.false)) in
    counted_refused _ _ (c.judge-verdict.ensures ∙ (λ i. judged (sym all.0 i) (sym all.1 i))) c.if-verdict-ne-ACCEPTED.true

pub returns : goal.returns
returns c =
    let all = walked_all _ _ _ _ c.loop-name.invariant (omega (arith, c.loop-name-test.false)) in
    counted_done _ _ _ (c.judge-verdict.ensures ∙ (λ i. judged (sym all.0 i) (sym all.1 i))) c.if-verdict-ne-ACCEPTED.false (sym all.0)
