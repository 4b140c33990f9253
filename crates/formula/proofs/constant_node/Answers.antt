-- `formula::constant_node` meets its contract: the words are the definition's.
-- Assumes nothing.
use mathlib.Core.Path.{refl}
use Rattle.formula.specs.Truth.{digit}
use Rattle.formula.specs.Words.{words_of}
use Rattle.formula.proofs.constant_node.Goals as goal

pub returns : goal.returns
unfolding words_of digit
returns c = refl
