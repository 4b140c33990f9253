-- `front_writer::write_name` meets its contract: nothing is written, or one word.
-- Assumes nothing.
use mathlib.Core.List.{List, [], ◌∷◌}
use Prim.Native.Nat.{ℕ}
use native.Mathlib.Omega.{arith}
use Rattle.lists.specs.Choice.{pick_yes, pick_no}
use Rattle.lists.proofs.Overwrite.{set_one, overwrite_nil}
use Rattle.front_writer.proofs.write_name.Goals as goal

pub returns-then-not-flag : goal.returns-then-not-flag
returns-then-not-flag c =
    let f = c.if-not-flag.true in
    let e = pick_no {A = List ℕ} c.args.flag (c.args.x ∷ []) [] f in
    (rw (e, overwrite_nil), omega (arith, pick_no {A = ℕ} c.args.flag 1 0 f))

pub offset_bounds-out-at : goal.offset_bounds-out-at
offset_bounds-out-at c = let h = c.requires (c.if-not-flag.false) in omega arith

pub bounds-out-at : goal.bounds-out-at
bounds-out-at c = c.requires (c.if-not-flag.false)

pub overflow_add-result : goal.overflow_add-result
overflow_add-result c = let h = c.requires (c.if-not-flag.false) in omega arith

pub returns : goal.returns
returns c =
    let t = c.if-not-flag.false in
    let e = pick_yes {A = List ℕ} c.args.flag (c.args.x ∷ []) [] t in
    (rw e (set_one c.args.out.now c.args.at c.args.x (omega (arith, c.requires t))), omega (arith, pick_yes {A = ℕ} c.args.flag 1 0 t))
