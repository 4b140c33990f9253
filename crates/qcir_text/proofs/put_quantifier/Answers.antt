-- `qcir_text::put_quantifier` meets its contract.
-- Assumes nothing.
use native.Mathlib.Omega.{arith}
use Rattle.texts.proofs.Put.{put_as}
use Rattle.qcir_text.proofs.Texts.{exists_text, forall_text}
use Rattle.qcir_text.proofs.put_quantifier.Goals as goal

pub returns-then-kind-eq-EXISTS_BLOCK : goal.returns-then-kind-eq-EXISTS_BLOCK
returns-then-kind-eq-EXISTS_BLOCK c =
    record {
      put = put_as (exists_text _ c.if-kind-eq-EXISTS_BLOCK.true) c.put_word.ensures;
      upper_bound = omega arith;
    }

pub returns : goal.returns
returns c =
    record {
      put = put_as (forall_text _ c.if-kind-eq-EXISTS_BLOCK.false) c.put_word-2.ensures;
      upper_bound = omega arith;
    }
