-- `texts::put_digits` meets its contract.
-- Assumes nothing.
use mathlib.Core.Path.{ap}
use Prim.Native.Nat.{◌+◌}
use native.Mathlib.Omega.{arith}
use Rattle.texts.proofs.Put.{put_stored, put_counted}
use Rattle.texts.proofs.put_digits.Goals as goal

pub returns-then-next-text : goal.returns-then-next-text
returns-then-next-text c = put_stored _ _ _ _ _ (ap (λ n. c.args.at + n) c.requires.1) (omega arith) c.store_digits.ensures

pub returns-else-next-text : goal.returns-else-next-text
returns-else-next-text c = put_counted _ _ _ _ (ap (λ n. c.args.at + n) c.requires.1) (omega arith)
