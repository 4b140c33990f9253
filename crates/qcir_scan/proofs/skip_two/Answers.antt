-- `qcir_scan::skip_two` meets its contract.
-- Assumes nothing.
use mathlib.Core.Path.{◌≡◌}
use Prim.Native.Nat.{◌+◌, ◌≤◌}
use native.Mathlib.Omega.{arith}
use lib.ListN.{length, get_or}
use Rattle.qcir_scan.specs.Held.{Leads}
use Rattle.qcir_scan.proofs.Steps.{two_idle}
use Rattle.qcir_scan.proofs.skip_two.Goals as goal

pub returns : goal.returns
returns c =
    let a = c.args in
    let text = a.text.now in
    let q = a.q in
    let p : q.place ≡ a.place = omega (arith, c.if-q-place.false) in
    let l : q.at + 2 ≤ length text = omega (arith, c.if-text-at.false) in
    let f : get_or text q.at 0 ≡ a.first = omega (arith, c.if-text-at-2.false) in
    let g : get_or text (q.at + 1) 0 ≡ a.second = omega (arith, c.if-text-at-3.false) in
    let leads : Leads q.place a.first a.second a.next = rw p c.requires.leads in
    ((omega arith, λ rs ns ps h. two_idle text rs ns ps q h c.requires.text_len_bound a.first a.second a.next leads l f g), l)
