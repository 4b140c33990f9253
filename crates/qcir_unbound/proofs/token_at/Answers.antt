-- `qcir_unbound::token_at` meets its contract.
-- Assumes nothing.
use mathlib.Core.Path.{refl}
use Rattle.qcir_unbound.specs.Steps.{tokens_of, token_of}
use Rattle.qcir_unbound.proofs.token_at.Goals as goal

pub returns : goal.returns
unfolding token_of tokens_of
returns c = refl
