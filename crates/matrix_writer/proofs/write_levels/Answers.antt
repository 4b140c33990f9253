-- `matrix_writer::write_levels` meets its contract. The loop's invariant, `Levelled`: the first j levels are written.
-- Assumes nothing.
use mathlib.Core.Path.{◌∙◌}
use native.Mathlib.Omega.{arith}
use Rattle.prenex_form.proofs.Quantifiers.{root_quantifier}
use Rattle.matrix_writer.proofs.Blocks.{table_whole, kept_positive_of}
use Rattle.matrix_writer.proofs.Levels.{levelled_none, level_room, levelled_next, levelled_all}
use Rattle.matrix_writer.proofs.write_levels.Goals as goal

-- with all levels passed, all are written
pub returns : goal.returns
returns c =
    levelled_all c.loop-j.invariant (omega (arith, c.loop-j-test.false, c.requires.deepest_value))

pub overflow_sub-blocks : goal.overflow_sub-blocks
overflow_sub-blocks c = omega (arith, table_whole _ _ c.args.blocks.now.started.checked)

pub node_at-root-requires : goal.node_at-root-requires
node_at-root-requires c = omega (arith, table_whole _ _ c.args.blocks.now.started.checked)

pub loop-j-init : goal.loop-j-init
loop-j-init c = levelled_none _ _ _ c.requires.first_value (c.of_kind-quantifier.ensures ∙ root_quantifier _ _ c.node_at-root.ensures)

pub write_level-next-requires : goal.write_level-next-requires
write_level-next-requires c =
    let d = c.loop-j.invariant in record {
      is_level = record { below = omega (arith, c.loop-j-test.true, c.requires); quantifier_is = d.quantifier_is };
      at_nonzero = omega (arith, kept_positive_of _ _ c.args.blocks.now.started.checked, d.wrote_added.next_is);
      room = level_room d _ _ c.requires.first_value c.requires.room c.loop-j-test.true;
    }

pub loop-j-preserved : goal.loop-j-preserved
loop-j-preserved c =
    let d = c.loop-j.invariant in
    levelled_next d _ _ _ c.write_level-next.ensures c.dual-quantifier.ensures c.write_level-next.auto.nodes (level_room d _ _ c.requires.first_value c.requires.room c.loop-j-test.true)
