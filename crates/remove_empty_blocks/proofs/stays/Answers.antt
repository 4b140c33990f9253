-- `remove_empty_blocks::stays` meets its contract.
-- Assumes nothing.
use mathlib.Core.Path.{◌∙◌, ap}
use mathlib.Core.Bool.{not}
use Rattle.formula.specs.Words.{is_empty_block}
use Rattle.empty_blocks.specs.Removal.{stays as stays_of}
use Rattle.remove_empty_blocks.proofs.stays.Goals as goal

pub returns : goal.returns
unfolding stays_of
returns c = ap not (c.is_empty_block.ensures ∙ ap is_empty_block c.node_at-node.ensures)
