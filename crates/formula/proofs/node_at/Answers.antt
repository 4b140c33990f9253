-- `formula::node_at` meets its contract: each word is read where it stands.
-- Assumes nothing.
use native.Mathlib.Nat.{add-zero}
use Rattle.formula.specs.Words.{field}
use Rattle.formula.proofs.node_at.Goals as goal

pub returns : goal.returns
unfolding field
returns c = rw add-zero
