-- `qdimacs_words::negative` meets its contract.
-- Assumes nothing.
use native.Mathlib.Omega.{arith}
use Rattle.qdimacs_words.proofs.Pieces.{positive_short, negative_held}
use Rattle.qdimacs_words.proofs.negative.Goals as goal

pub returns : goal.returns
returns c = λ x h e. (negative_held x h c.args.word e, omega (arith, positive_short x h c.args.word e))
