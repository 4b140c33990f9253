-- `texts::put_word` meets its contract.
-- Assumes nothing.
use mathlib.Core.Path.{refl}
use native.Mathlib.Omega.{arith}
use Rattle.texts.proofs.Put.{put_held, put_counted}
use Rattle.texts.proofs.put_word.Goals as goal

pub returns-then-next-text : goal.returns-then-next-text
returns-then-next-text c = put_held _ _ _ _ _ refl c.if-next-text.true c.store_word.ensures

pub returns-else-next-text : goal.returns-else-next-text
returns-else-next-text c = put_counted _ _ _ _ refl (omega arith)
