-- `qcir_table::write_lines` meets its contract. The loop's invariant: what the tokens from token i on add is written.
-- Assumes nothing.
use mathlib.Core.Path.{◌≡◌}
use Prim.Native.Nat.{suc, ◌-◌}
use native.Mathlib.Omega.{arith}
use Rattle.qcir_table.proofs.Lines.{Fits, reached_start, outer_room, outer_listed, reached_outer, reached_end, part_is}
use Rattle.qcir_table.proofs.write_lines.Goals as goal

pub loop-i-init : goal.loop-i-init
loop-i-init c = reached_start _ _ _ _ _ _

pub write_outer-p-requires : goal.write_outer-p-requires
write_outer-p-requires c =
    let a = c.args in
    let v = c.loop-i in
    let t = c.loop-i-test.true in
    let e : v.i ≡ suc (v.i - 1) = omega arith in
    let r = rw e at v.invariant in
    let f : Fits a.tokens.now.roles.now a.tokens.now.numbers.now a.start a.outer a.words.now a.list.now = record { words_fit = c.requires.outer_in_bounds_2.0; few_words = c.requires.outer_in_bounds_2.1; list_fits = c.requires.outer_in_bounds_3.0; few_entries = c.requires.outer_in_bounds_3.1 } in
    let part = part_is (v.i - 1) v.end a.tokens.now.numbers.now (omega (arith, r.from_le)) in record {
      room = outer_room _ _ _ _ _ _ _ _ _ _ _ r (omega (arith, c.requires.outer_in_bounds, c.args.tokens.now.room.numbers_hold)) f _ part;
      listed = outer_listed _ _ _ _ _ _ _ _ _ _ _ r (omega (arith, c.requires.outer_in_bounds, c.args.tokens.now.room.numbers_hold)) f _ part;
    }

pub loop-i-preserved : goal.loop-i-preserved
loop-i-preserved c =
    let a = c.args in
    let v = c.loop-i in
    let t = c.loop-i-test.true in
    let e : v.i ≡ suc (v.i - 1) = omega arith in
    let r = rw e at v.invariant in
    let f : Fits a.tokens.now.roles.now a.tokens.now.numbers.now a.start a.outer a.words.now a.list.now = record { words_fit = c.requires.outer_in_bounds_2.0; few_words = c.requires.outer_in_bounds_2.1; list_fits = c.requires.outer_in_bounds_3.0; few_entries = c.requires.outer_in_bounds_3.1 } in
    reached_outer _ _ _ _ _ _ _ _ _ _ _ r (omega (arith, c.requires.outer_in_bounds, c.args.tokens.now.room.numbers_hold)) f _ (part_is (v.i - 1) v.end a.tokens.now.numbers.now (omega (arith, r.from_le))) _ _ _ _ c.write_outer-p.ensures.wrote c.write_outer-p.ensures.list_after c.line_end-end.ensures c.write_outer-p.auto.words c.write_outer-p.auto.list

pub returns : goal.returns
returns c = let w = reached_end _ _ _ _ _ _ _ _ _ _ _ (omega arith) c.loop-i.invariant in record { words_after = w.0; list_after = w.1 }
