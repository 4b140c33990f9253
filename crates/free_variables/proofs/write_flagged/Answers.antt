-- `free_variables::write_flagged` meets its contract. The invariant: the numbers passed whose flag is set stand at the start of the buffer, and `at` is behind them.
-- Assumes nothing.
use mathlib.Core.Path.{◌≡◌, sym, ◌∙◌, ap}
use mathlib.Core.Bool.{Bool, true, false}
use mathlib.Core.List.{List}
use Prim.Native.Nat.{◌+◌, ◌<◌, ◌≤◌}
use native.Mathlib.Omega.{arith}
use lib.ListN.{length, get_or, set}
use Rattle.lists.specs.Parts.{overwrite}
use Rattle.lists.proofs.Overwrite.{overwrite_nil}
use Rattle.free_variables.specs.Steps.{flagged}
use Rattle.free_variables.proofs.Flags.{flagged_low}
use Rattle.free_variables.proofs.Listing.{flagged_below, flagged_none, flagged_all, flagged_skip, flagged_more, flagged_room, flagged_next}
use Rattle.free_variables.proofs.write_flagged.Goals.{In-loop-x, then-flags-x+else-at-found, else-flags-x}
use Rattle.free_variables.proofs.write_flagged.Goals as goal

pub loop-x-init : goal.loop-x-init
loop-x-init c =
    let none = flagged_none c.args.flags.now c.args.found.lowest c.requires.flags_len_bound.1.none_below in
    (rw none, rw (none, overwrite_nil))

-- where a flag is set, its number is among those to be written, and is written
module _ (c : In-loop-x) (yes : get_or c.args.flags.now c.loop-x.x false ≡ true) where
  abbrev fs : List Bool
  fs = c.args.flags.now

  counted : length (flagged fs) ≡ c.args.found.count
  counted = sym c.requires.flags_len_bound.1.count_is

  left : c.loop-x.at < length (flagged fs)
  left = omega (arith, c.loop-x.invariant.0, flagged_room fs c.loop-x.x c.loop-x-test.true yes (length (flagged fs)) (omega arith))

  turn : (c.loop-x.at + 1 ≡ length (flagged_below fs (c.loop-x.x + 1)))
      × (set c.loop-x.names c.loop-x.at c.loop-x.x ≡ overwrite c.args.names.now 0 (flagged_below fs (c.loop-x.x + 1)))
  turn =
      let e = flagged_more fs c.loop-x.x c.loop-x-test.true yes in
      let fits : length (flagged fs) ≤ length c.args.names.now = omega (arith, counted, c.requires.count_in_bounds) in (
        omega (arith, c.loop-x.invariant.0),
        flagged_next fs c.loop-x.x c.loop-x-test.true yes _ _ _ c.loop-x.auto.names fits c.loop-x.invariant.0 c.loop-x.invariant.1,
      )

pub offset_bounds-names-at : goal.offset_bounds-names-at
offset_bounds-names-at c =
    let n = left (goal.at.offset_bounds-names-at c).In-loop-x c.if-flags-x.true in
    omega (arith, n, flagged_low c.args.flags.now, c.requires.flags_len_bound.0)

pub bounds-names-at : goal.bounds-names-at
bounds-names-at c =
    let n = left (goal.at.bounds-names-at c).In-loop-x c.if-flags-x.true in
    omega (arith, n, c.requires.flags_len_bound.1.count_is, c.requires.count_in_bounds)

pub overflow_add-at : goal.overflow_add-at
overflow_add-at c =
    let n = left (goal.at.overflow_add-at c).In-loop-x c.if-flags-x.true in
    omega (arith, n, flagged_low c.args.flags.now, c.requires.flags_len_bound.0)

pub returns-then-at-found : goal.returns-then-at-found
returns-then-at-found c =
    let t = turn (goal.at.returns-then-at-found c).In-loop-x c.if-flags-x.true in
    let all = flagged_all c.args.flags.now (c.loop-x.x + 1) (omega arith) (omega (arith, t.0, c.requires.flags_len_bound.1.count_is)) in
    t.1 ∙ ap (overwrite c.args.names.now 0) all

pub loop-x-preserved : goal.loop-x-preserved
loop-x-preserved c =
    elim c.if-flags-x.branch [
      | then-flags-x+else-at-found w ↦ rw (w.at-is, w.names-is) (turn (goal.at.loop-x-preserved c).In-loop-x w.if-flags-x.true)
      | else-flags-x w ↦ let e = flagged_skip c.args.flags.now c.loop-x.x w.if-flags-x.false in rw (w.at-is, w.names-is, ← e) c.loop-x.invariant
    ]

pub returns : goal.returns
unfolding flagged
returns c =
    let e : c.loop-x.x ≡ length c.args.flags.now = omega (arith, c.requires.flags_len_bound.1.lowest_le) in
    rw e at c.loop-x.invariant.1
