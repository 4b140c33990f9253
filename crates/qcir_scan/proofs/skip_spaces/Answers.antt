-- `qcir_scan::skip_spaces` meets its contract. The invariant: whatever arrays hold the state at the start hold it after the bytes so far.
-- Assumes nothing.
use mathlib.Core.Bool.{true}
use mathlib.Core.Path.{◌≡◌, sym, ◌∙◌, subst}
use Prim.Native.Nat.{◌<◌}
use native.Mathlib.Omega.{arith}
use lib.ListN.{length, get_or}
use Rattle.qcir.specs.Spelling.{is_space}
use Rattle.qcir_scan.specs.declared.Progress.{Progress}
use Rattle.qcir_scan.specs.Held.{Holds}
use Rattle.qcir_scan.proofs.Rule.{passed_space}
use Rattle.qcir_scan.proofs.Steps.{passes}
use Rattle.qcir_scan.proofs.skip_spaces.Goals as goal

pub loop-at-preserved : goal.loop-at-preserved
loop-at-preserved c =
    let text = c.args.text.now in
    let v = c.loop-at in
    let q : Progress = record { at = v.at; place = c.args.q.place; number = c.args.q.number; begin = c.args.q.begin; count = c.args.q.count } in
    let place = c.requires.between.0 in
    let w : get_or text v.at 0 < 256 = omega (arith, c.type_inv.text v.at) in
    let t : is_space (get_or text v.at 0) ≡ true = sym c.is_space.ensures ∙ c.if-not-is_space.false in
    λ rs ns ps h. passes text rs ns ps q (v.invariant rs ns ps h) c.loop-at-test.true (omega (arith, place.first)) c.requires.text_len_bound w (passed_space q.place (get_or text v.at 0) place t)

pub returns : goal.returns
returns c =
    let q = c.args.q in
    let v = c.loop-at in
    let text = c.args.text.now in
    let e : v.at ≡ length text = omega arith in
    (omega arith, λ rs ns ps h. subst (λ x. Holds text rs ns ps (record { at = x; place = q.place; number = q.number; begin = q.begin; count = q.count })) e (v.invariant rs ns ps h))
