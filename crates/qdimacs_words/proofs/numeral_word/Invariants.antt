-- `qdimacs_words::numeral_word` meets its contract. The loop's invariant: the word holds the digits after those of `left`, and the space.
-- Assumes nothing.
use Rattle.qdimacs_words.proofs.Words.{Behind}
use Rattle.qdimacs_words.proofs.numeral_word.Given as goal

abbrev pub invariant-loop-left : goal.invariant-loop-left
invariant-loop-left l = Behind l.x l.word l.length l.left

abbrev pub decreases-loop-left : goal.decreases-loop-left
decreases-loop-left l = l.left
