-- `prefix_writer::write_prefix` meets its contract. The loop's invariant: the blocks before block j are written.
-- Assumes nothing.
use mathlib.Core.Path.{◌∙◌, sym}
use native.Mathlib.Omega.{arith}
use Rattle.prefix_writer.proofs.Depth.{variables_le}
use Rattle.prefix_writer.proofs.Prefix.{none_written_lem, written_start, written_step, written_end, room_words, room_list, end_le}
use Rattle.prefix_writer.proofs.write_prefix.Goals as goal

pub returns-then-count-eq0 : goal.returns-then-count-eq0
returns-then-count-eq0 c = let w = none_written_lem _ _ _ (sym c.requires.counts.0 ∙ c.if-count-eq0.true) in record { prefix_after = w.0; variables_after = w.1 }

pub loop-j-init : goal.loop-j-init
loop-j-init c = written_start _ _ _ _ (λ e. c.if-count-eq0.false (c.requires.counts.0 ∙ e)) c.first_quantifier-quantifier.ensures

pub write_block-at-requires : goal.write_block-at-requires
write_block-at-requires c =
    let p = c.requires in
    let w = c.loop-j.invariant in
    let h = rw p.counts.1 at c.loop-j-test.true in record {
      j_bound = h;
      prefix_width_in_bounds = room_words _ _ _ _ _ _ _ _ w h p.list_in_bounds;
      j_in_bounds = room_list _ _ _ _ _ _ _ _ w h p.list_in_bounds_2;
      j_bound_2 = omega (arith, end_le _ _ _ _ _ _ _ _ w h, variables_le _ _ c.args.blocks.now.started.checked);
    }

pub loop-j-preserved : goal.loop-j-preserved
loop-j-preserved c =
    let p = c.requires in
    let h = rw p.counts.1 at c.loop-j-test.true in
    let e = c.write_block-at.ensures in
    written_step _ _ _ _ _ _ _ _ c.loop-j.invariant h c.write_block-at.new.prefix c.write_block-at.new.variables _ _ p.list_in_bounds p.list_in_bounds_2 e.prefix_after e.variables_after e.value c.dual-quantifier.ensures

-- the last block is written, and none is left
pub returns-else-count-eq0-2 : goal.returns-else-count-eq0-2
returns-else-count-eq0-2 c =
    let p = c.requires in
    let h = rw p.counts.1 at c.loop-j-test.true in
    let e = c.write_block-at.ensures in
    let last = written_step _ _ _ _ _ _ _ _ c.loop-j.invariant h c.write_block-at.new.prefix c.write_block-at.new.variables _ _ p.list_in_bounds p.list_in_bounds_2 e.prefix_after e.variables_after e.value c.dual-quantifier.ensures in
    let w = written_end _ _ _ _ _ _ _ _ last (omega (arith, p.counts.1)) in record { prefix_after = w.0; variables_after = w.1 }
