-- `matrix_writer::write_levels` meets its contract. The loop's invariant, `Levelled`: the first j levels are written.
-- Assumes nothing.
use Rattle.arrays.specs.Blocks.{table}
use Rattle.prenex_form.specs.Quantifiers.{node_quantifier}
use Rattle.matrix_writer.proofs.Levels.{Levelled}
use Rattle.matrix_writer.proofs.write_levels.Given as goal

abbrev pub invariant-loop-j : goal.invariant-loop-j
invariant-loop-j l = Levelled (table l.blocks) l.initial.nodes l.nodes (node_quantifier l.quantifier) l.next l.j
