-- `formula::block_node` meets its contract: the words are the definition's.
-- Assumes nothing.
use mathlib.Core.Path.{refl}
use Rattle.formula.specs.Words.{block_words}
use Rattle.formula.proofs.block_node.Goals as goal

pub returns : goal.returns
unfolding block_words
returns c = refl
