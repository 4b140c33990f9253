-- `texts::store_word` meets its contract. The loop's invariant: the first k bytes of the word are stored.
-- Assumes nothing.
use mathlib.Core.Path.{sym}
use native.Mathlib.Omega.{arith}
use Rattle.lists.proofs.Overwrite.{overwrite_nil}
use Rattle.texts.proofs.Stores.{store_next, store_all}
use Rattle.texts.proofs.store_word.Goals as goal

pub loop-k-init : goal.loop-k-init
loop-k-init c = sym (overwrite_nil _ _)

pub loop-k-preserved : goal.loop-k-preserved
loop-k-preserved c = store_next _ _ _ _ _ c.loop-k.invariant (omega arith) (omega arith)

pub returns : goal.returns
returns c = store_all _ _ _ _ c.loop-k.k c.loop-k.invariant (omega arith)
