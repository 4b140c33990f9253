-- `formula::is_block_kind` meets its contract: its test is the definition.
-- Assumes nothing.
use mathlib.Core.Path.{refl}
use Rattle.formula.specs.Words.{is_block_kind}
use Rattle.formula.proofs.is_block_kind.Goals as goal

pub returns : goal.returns
unfolding is_block_kind
returns c = refl
