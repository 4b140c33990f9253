-- `qcir_scan::read_digits` meets its contract. The invariant: whatever arrays hold the state at the start hold it after the digits so far.
-- Assumes nothing.
use mathlib.Core.Bool.{true}
use mathlib.Core.Path.{◌≡◌, refl, sym, ◌∙◌, subst}
use Prim.Native.Nat.{◌+◌, ◌*◌, ◌%◌, ◌≤◌, ◌<◌}
use native.Mathlib.Omega.{arith}
use lib.ListN.{length, get_or}
use Rattle.qcir.specs.Spelling.{is_digit}
use Rattle.qcir_scan.specs.declared.Progress.{Progress}
use Rattle.qcir_scan.specs.Held.{Holds}
use Rattle.qcir_scan.proofs.Steps.{further_on, further_too_high}
use Rattle.qcir_scan.proofs.read_digits.Goals as goal

pub returns-then-further-gt-HIGHEST : goal.returns-then-further-gt-HIGHEST
returns-then-further-gt-HIGHEST c =
    let text = c.args.text.now in
    let v = c.loop-at in
    let q : Progress = record { at = v.at; place = c.args.q.place; number = v.number; begin = c.args.q.begin; count = c.args.q.count } in
    let place = c.requires.in_name.0 in
    let w : get_or text v.at 0 < 256 = omega (arith, c.type_inv.text v.at) in
    let t : is_digit (get_or text v.at 0) ≡ true = sym c.is_digit.ensures ∙ c.if-not-is_digit.false in
    let over : 65535 < 10 * v.number + get_or text v.at 0 % 16 = omega (arith, c.if-further-gt-HIGHEST.true) in
    rw c.stopped.ensures (omega arith, λ rs ns ps h. further_too_high text rs ns ps q (v.invariant.1 rs ns ps h) c.loop-at-test.true (omega (arith, place.first)) c.requires.text_len_bound w place t refl over)

pub loop-at-preserved : goal.loop-at-preserved
loop-at-preserved c =
    let text = c.args.text.now in
    let v = c.loop-at in
    let q : Progress = record { at = v.at; place = c.args.q.place; number = v.number; begin = c.args.q.begin; count = c.args.q.count } in
    let place = c.requires.in_name.0 in
    let w : get_or text v.at 0 < 256 = omega (arith, c.type_inv.text v.at) in
    let t : is_digit (get_or text v.at 0) ≡ true = sym c.is_digit.ensures ∙ c.if-not-is_digit.false in
    let low : 10 * v.number + get_or text v.at 0 % 16 ≤ 65535 = omega (arith, c.if-further-gt-HIGHEST.false) in
    (low, λ rs ns ps h. further_on text rs ns ps q (v.invariant.1 rs ns ps h) c.loop-at-test.true (omega (arith, place.first)) c.requires.text_len_bound w place t refl low)

pub returns : goal.returns
returns c =
    let q = c.args.q in
    let v = c.loop-at in
    let text = c.args.text.now in
    let e : v.at ≡ length text = omega arith in
    (omega arith, λ rs ns ps h. subst (λ x. Holds text rs ns ps (record { at = x; place = q.place; number = v.number; begin = q.begin; count = q.count })) e (v.invariant.1 rs ns ps h))
