-- `qcir_scan::advance` meets its contract: the table's entry is the step's effect.
-- Assumes nothing.
use Prim.Native.Nat.{◌/◌, ◌%◌, ◌≤◌, ◌<◌}
use native.Mathlib.Omega.{arith}
use lib.ListN.{get_or}
use Rattle.qcir_scan.specs.Held.{InName}
use Rattle.qcir_scan.proofs.Rule.{name_place}
use Rattle.qcir_scan.proofs.Steps.{after_byte, after_digit, after_too_high}
use Rattle.qcir_scan.proofs.advance.Goals as goal

pub skip_run-requires : goal.skip_run-requires
skip_run-requires c =
    let l = c.requires.at_in_bounds.0 in record {
      text_len_bound = c.requires.text_len_bound;
      at_in_bounds = omega arith;
    }

pub returns-then-act-lt-NAME : goal.returns-then-act-lt-NAME
returns-then-act-lt-NAME c =
    let a = c.args in
    let text = a.text.now in
    let q = a.q in
    let h = c.requires.holds in
    let l = c.requires.at_in_bounds.0 in
    let w : get_or text q.at 0 < 256 = omega (arith, c.type_inv.text q.at) in
    let put = c.put_token.ensures in
    let low : c.entry_at-entry.result / 256 ≤ 24 = omega (arith, c.if-act-lt-NAME.true) in
    let r = c.skip_run.ensures in
    (r.1 _ _ _ (after_byte text a.roles.now a.numbers.now a.positions.now q h l c.requires.at_in_bounds.1 c.requires.text_len_bound w c.entry_at-entry.result c.entry_at-entry.ensures low put.0 put.1 put.2 c.count_after-count.ensures), omega (arith, r.0))

pub returns-then-number-gt-HIGHEST : goal.returns-then-number-gt-HIGHEST
returns-then-number-gt-HIGHEST c =
    let a = c.args in
    let text = a.text.now in
    let q = a.q in
    let h = c.requires.holds in
    let l = c.requires.at_in_bounds.0 in
    let w : get_or text q.at 0 < 256 = omega (arith, c.type_inv.text q.at) in
    let high : 24 < c.entry_at-entry.result / 256 = omega (arith, c.if-act-lt-NAME.false) in
    rw c.stopped.ensures (after_too_high text a.roles.now a.numbers.now a.positions.now q h l c.requires.at_in_bounds.1 c.requires.text_len_bound w c.entry_at-entry.result c.entry_at-entry.ensures high c.number_after-number.ensures c.if-number-gt-HIGHEST.true, omega arith)

pub read_digits-requires : goal.read_digits-requires
read_digits-requires c =
    let a = c.args in
    let text = a.text.now in
    let q = a.q in
    let h = c.requires.holds in
    let l = c.requires.at_in_bounds.0 in
    let w : get_or text q.at 0 < 256 = omega (arith, c.type_inv.text q.at) in
    let high : 24 < c.entry_at-entry.result / 256 = omega (arith, c.if-act-lt-NAME.false) in
    let place : InName (c.entry_at-entry.result % 256) = rw c.entry_at-entry.ensures (name_place q.place h.place_low (get_or text q.at 0) w (rw c.entry_at-entry.ensures at high)) in record {
      text_len_bound = c.requires.text_len_bound;
      in_name = (place, c.if-number-gt-HIGHEST.false, omega arith);
    }

pub returns : goal.returns
returns c =
    let a = c.args in
    let text = a.text.now in
    let q = a.q in
    let h = c.requires.holds in
    let l = c.requires.at_in_bounds.0 in
    let w : get_or text q.at 0 < 256 = omega (arith, c.type_inv.text q.at) in
    let high : 24 < c.entry_at-entry.result / 256 = omega (arith, c.if-act-lt-NAME.false) in
    let r = c.read_digits.ensures in
    (r.1 _ _ _ (after_digit text a.roles.now a.numbers.now a.positions.now q h l c.requires.at_in_bounds.1 c.requires.text_len_bound w c.entry_at-entry.result c.entry_at-entry.ensures high c.number_after-number.ensures c.begin_after-begin.ensures c.if-number-gt-HIGHEST.false), omega (arith, r.0))
