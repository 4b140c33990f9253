-- `growth::more_grown` meets its contract.
-- Assumes nothing.
use mathlib.Core.Path.{◌≡◌, sym, ◌∙◌}
use Prim.Native.Nat.{◌<◌}
use native.Mathlib.Omega.{arith}
use borrow.Author.Rules.{rules}
use Rattle.lists.specs.Choice.{pick_yes, pick_no}
use Rattle.growth.proofs.MostGrown.{more_no_part, more_first, more_compared}
use Rattle.growth.proofs.more_grown.Goals as goal

pub returns-then-here-eq0 : goal.returns-then-here-eq0
returns-then-here-eq0 c =
    let at = c.args in
    let out : at.here.input ≡ 0 = omega (arith, c.if-here-eq0.true) in
    (sym (more_no_part at.most at.here out), search rules)

pub returns-then-most-eq0 : goal.returns-then-most-eq0
returns-then-most-eq0 c =
    let at = c.args in
    let part : 0 < at.here.input = omega (arith, c.if-here-eq0.false) in
    let none : at.most.input ≡ 0 = omega (arith, c.if-most-eq0.true) in
    (sym (more_first at.most at.here part none), search rules)

pub returns-then-less : goal.returns-then-less
returns-then-less c =
    let at = c.args in
    let part : 0 < at.here.input = omega (arith, c.if-here-eq0.false) in
    let before : 0 < at.most.input = omega (arith, c.if-most-eq0.false) in
    let chosen = sym c.less.ensures ∙ c.if-less.true in
    (sym (more_compared at.most at.here part before ∙ pick_yes _ _ _ chosen), search rules)

pub returns : goal.returns
returns c =
    let at = c.args in
    let part : 0 < at.here.input = omega (arith, c.if-here-eq0.false) in
    let before : 0 < at.most.input = omega (arith, c.if-most-eq0.false) in
    let chosen = sym c.less.ensures ∙ c.if-less.false in
    (sym (more_compared at.most at.here part before ∙ pick_no _ _ _ chosen), search rules)
