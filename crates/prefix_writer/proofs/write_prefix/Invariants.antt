-- `prefix_writer::write_prefix` meets its contract. The loop's invariant: the blocks before block j are written.
-- Assumes nothing.
use Rattle.arrays.specs.Blocks.{table}
use Rattle.prenex_form.specs.Quantifiers.{node_quantifier}
use Rattle.prefix_writer.proofs.Prefix.{Written}
use Rattle.prefix_writer.proofs.write_prefix.Given as goal

abbrev pub invariant-loop-j : goal.invariant-loop-j
invariant-loop-j l = Written (table l.blocks) l.initial.prefix l.prefix l.initial.variables l.variables l.at l.j (node_quantifier l.quantifier)
