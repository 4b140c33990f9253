-- `qcir_unbound::go_back` meets its contract.
-- Assumes nothing.
use mathlib.Core.Path.{sym, ◌∙◌, ap}
use native.Mathlib.Omega.{arith}
use lib.ListN.{length, length-set}
use Rattle.qcir_unbound.proofs.Within.{returned_is, freed_is, stepped_is}
use Rattle.qcir_unbound.proofs.go_back.Goals as goal
use Rattle.qcir_unbound.proofs.go_back.Goals.{then-is_bound, else-is_bound}

pub pass-requires : goal.pass-requires
pass-requires c = c.requires.back_fits.user_low

pub returns-then-is_definition : goal.returns-then-is_definition
returns-then-is_definition c = returned_is c.requires.step_fits _ _ (sym c.is_definition.ensures ∙ c.if-is_definition.true) c.pass.ensures

pub shape_of-marks : goal.shape_of-marks
shape_of-marks c =
    let a = c.args in
    elim c.if-is_bound.branch [ then-is_bound w ↦ ap length w.marks-is ∙ length-set a.marks.now a.token.number _ | else-is_bound w ↦ ap length w.marks-is ]

pub returns : goal.returns
returns c =
    let f = c.requires.step_fits in
    let n = sym c.is_definition.ensures ∙ c.if-is_definition.false in
    let e = c.move_to.ensures in
    let t = sym c.is_bound.ensures in
    elim c.if-is_bound.branch [
      | then-is_bound w ↦ freed_is f _ _ n e (t ∙ w.if-is_bound.true) (omega arith) w.marks-is
      | else-is_bound w ↦ stepped_is f _ _ n e (t ∙ w.if-is_bound.false) w.marks-is
    ]
