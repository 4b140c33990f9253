-- `growth_report::measure_files` meets its contract. The loop's invariant: the names measured and those left are all names.
-- Assumes nothing.
use mathlib.Core.Path.{ap, ◌∙◌}
use native.Mathlib.Omega.{arith}
use lib.ListN.{length}
use Rattle.growth_report.proofs.measure_files.Goals as goal

pub loop-i-init : goal.loop-i-init
loop-i-init c = (c.requires, omega arith, omega arith)

pub shape_of-lines-then-name : goal.shape_of-lines-then-name
shape_of-lines-then-name c = omega (arith, c.loop-i.invariant.0, c.requires)

pub returns-then-name : goal.returns-then-name
returns-then-name c =
    let inv = c.loop-i.invariant in
    let name = c.next_name-name.ensures in
    let none = name.none (omega (arith, name.order, c.if-name.true)) in
    (inv.1, λ _. omega (arith, inv.2, ap length none))

pub measure_name-requires : goal.measure_name-requires
measure_name-requires c = let name = c.next_name-name.ensures in (name.order, name.within)

pub store_line-requires : goal.store_line-requires
store_line-requires c = omega (arith, c.loop-i.invariant.0, c.loop-i-test.true)

pub loop-i-preserved : goal.loop-i-preserved
loop-i-preserved c =
    let inv = c.loop-i.invariant in
    let name = c.next_name-name.ensures in
    let some = name.some (omega (arith, c.if-name.false)) in
    (c.store_line.auto.lines ∙ inv.0, omega (arith, c.loop-i-test.true), omega (arith, inv.2, ap length some))

pub shape_of-lines : goal.shape_of-lines
shape_of-lines c = omega (arith, c.loop-i.invariant.0, c.requires)

pub returns : goal.returns
returns c = let inv = c.loop-i.invariant in (omega arith, λ few. omega (arith, inv, few, c.loop-i-test.false))
