-- `prenex_form::Quantifier::of_kind` meets its contract.
-- Assumes nothing.
use Rattle.prenex_form.proofs.Quantifiers.{exists_read, for_all_read}
use Rattle.prenex_form.proofs.Quantifier.of_kind.Goals as goal

pub returns-then-kind-eq-EXISTS_BLOCK : goal.returns-then-kind-eq-EXISTS_BLOCK
returns-then-kind-eq-EXISTS_BLOCK c = exists_read _ c.if-kind-eq-EXISTS_BLOCK.true

pub returns : goal.returns
returns c = for_all_read _ c.if-kind-eq-EXISTS_BLOCK.false
