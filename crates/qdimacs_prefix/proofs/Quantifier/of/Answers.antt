-- `qdimacs_prefix::Quantifier::of` meets its contract.
-- Assumes nothing.
use Rattle.qdimacs_prefix.proofs.Prefix.{other_kind}
use Rattle.qdimacs_prefix.proofs.Quantifier.of.Goals as goal

pub returns-else-kind-eq-EXISTS_BLOCK : goal.returns-else-kind-eq-EXISTS_BLOCK
returns-else-kind-eq-EXISTS_BLOCK c = other_kind c.args.kind c.requires c.if-kind-eq-EXISTS_BLOCK.false
