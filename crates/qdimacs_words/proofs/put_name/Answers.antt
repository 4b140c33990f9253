-- `qdimacs_words::put_name` meets its contract.
-- Assumes nothing.
use native.Mathlib.Omega.{arith}
use Rattle.texts.proofs.Lengths.{at_most_six}
use Rattle.qdimacs_words.proofs.Loose.{loose_counted}
use Rattle.qdimacs_words.proofs.Words.{spaced_length}
use Rattle.qdimacs_words.proofs.Pieces.{positive_length, name_stored}
use Rattle.qdimacs_words.proofs.put_name.Goals as goal

pub overflow_add-next : goal.overflow_add-next
overflow_add-next c = omega (arith, at_most_six c.args.x (omega arith))

pub overflow_add-next-2 : goal.overflow_add-next-2
overflow_add-next-2 c = omega (arith, at_most_six c.args.x (omega arith))

pub store_piece-requires : goal.store_piece-requires
store_piece-requires c =
    let x = c.args.x in
    let p = c.requires in
    let h = c.positive-piece.ensures x p.1 c.numeral_word.ensures in
    (omega (arith, h.0.sized, positive_length x), omega (arith, h.1))

pub returns-then-next-text : goal.returns-then-next-text
returns-then-next-text c =
    let x = c.args.x in
    let p = c.requires in
    let h = c.positive-piece.ensures x p.1 c.numeral_word.ensures in record {
      loose = name_stored x (omega (arith, h.0.sized, positive_length x)) (c.store_piece.ensures.by_index _ h.0);
      upper_bound = omega (arith, at_most_six x p.1);
    }

pub returns-else-next-text : goal.returns-else-next-text
returns-else-next-text c =
    let x = c.args.x in
    let p = c.requires in record {
      loose = loose_counted (omega (arith, spaced_length x)) (omega arith);
      upper_bound = omega (arith, at_most_six x p.1);
    }
