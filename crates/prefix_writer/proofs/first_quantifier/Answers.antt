-- `prefix_writer::first_quantifier` meets its contract.
-- Assumes nothing.
use mathlib.Core.Path.{◌∙◌}
use Rattle.prenex_form.proofs.Quantifiers.{root_quantifier}
use Rattle.prefix_writer.proofs.Words.{has_root, root_fits}
use Rattle.prefix_writer.proofs.first_quantifier.Goals as goal

pub overflow_sub-blocks : goal.overflow_sub-blocks
overflow_sub-blocks c = has_root _ _ c.args.blocks.now.started.checked

pub node_at-root-requires : goal.node_at-root-requires
node_at-root-requires c = root_fits _ _ c.args.blocks.now.started.checked

pub returns : goal.returns
returns c = c.of_kind.ensures ∙ root_quantifier _ _ c.node_at-root.ensures
