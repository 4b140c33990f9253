-- `form_check::flag_names` meets its contract: the loop's invariant is `Reached`, of the names passed so far, whatever names were flagged before.
-- Assumes nothing.
use mathlib.Core.Bool.{true≢false}
use mathlib.Core.Path.{sym, ◌∙◌}
use Rattle.form_check.proofs.Flags.{reached_start, reached_bad, reached_next, reached_new, reached_flagged}
use Rattle.form_check.proofs.flag_names.Goals as goal

pub loop-x-init : goal.loop-x-init
loop-x-init c = λ before f. reached_start _ before _ _ f

pub returns-then-not-flag_name : goal.returns-then-not-flag_name
returns-then-not-flag_name c =
    λ before f.
    let p = c.loop-x.invariant before f in
    let n = (c.flag_name.ensures _ p.flagged).0 in
    (reached_bad _ before _ _ _ p c.loop-x-test.true (sym n ∙ c.if-not-flag_name.true), λ z. absurd (true≢false (sym z)))

pub loop-x-preserved : goal.loop-x-preserved
loop-x-preserved c =
    λ before f.
    let p = c.loop-x.invariant before f in
    let r = c.flag_name.ensures _ p.flagged in
    reached_next _ before _ _ _ p c.loop-x-test.true (sym r.0 ∙ c.if-not-flag_name.false) _ _ (r.1 c.if-not-flag_name.false)

pub returns : goal.returns
returns c =
    λ before f.
    let p = c.loop-x.invariant before f in
    (reached_new _ before _ _ _ p c.loop-x-test.false, λ z. reached_flagged _ before _ _ _ p c.loop-x-test.false)
