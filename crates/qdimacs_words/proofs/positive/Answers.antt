-- `qdimacs_words::positive` meets its contract.
-- Assumes nothing.
use Rattle.qdimacs_words.proofs.Pieces.{positive_held, positive_short}
use Rattle.qdimacs_words.proofs.positive.Goals as goal

pub returns : goal.returns
returns c = λ x h e. (positive_held x h c.args.word e, positive_short x h c.args.word e)
