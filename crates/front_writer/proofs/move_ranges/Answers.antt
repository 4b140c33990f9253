-- `front_writer::move_ranges` meets its contract. The loop's invariant: the ranges of the blocks passed are moved.
-- Assumes nothing.
use mathlib.Core.Path.{◌≡◌, sym}
use native.Mathlib.Omega.{arith}
use Rattle.lists.proofs.Overwrite.{overwrite_nil}
use Rattle.front_writer.specs.Written.{moved}
use Rattle.front_writer.proofs.Laws.{move_fits, moved_turn}
use Rattle.front_writer.proofs.move_ranges.Goals as goal

pub loop-j-init : goal.loop-j-init
unfolding moved
loop-j-init c = sym (overwrite_nil c.args.prefix.now 0)

pub move_range-requires : goal.move_range-requires
move_range-requires c =
    let l = c.loop-j in
    let h = c.loop-j-test.true in record {
      prefix_width_in_bounds = omega (arith, c.requires.blocks_there, c.loop-j.auto.prefix);
      by_bound = move_fits _ _ _ _ _ c.requires h l.invariant;
    }

pub loop-j-preserved : goal.loop-j-preserved
loop-j-preserved c =
    let l = c.loop-j in
    let h = c.loop-j-test.true in
    moved_turn _ _ _ _ _ c.requires h l.invariant _ c.move_range.ensures

pub returns : goal.returns
returns c =
    let all : c.args.blocks ≡ c.loop-j.j = omega (arith, c.loop-j-test.false, c.loop-j.auto.j-end) in
    rw all c.loop-j.invariant
