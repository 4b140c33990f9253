-- `qdimacs_rows::store_two` meets its contract: three pieces one after the other.
-- Assumes nothing.
use native.Mathlib.Omega.{arith}
use Rattle.qdimacs_words.proofs.Loose.{loose_then}
use Rattle.qdimacs_rows.proofs.store_two.Goals as goal

pub returns : goal.returns
returns c =
    record {
      by_index = λ xs ys h k. loose_then (c.store_piece-next.ensures.by_index xs h)
          (loose_then (c.store_piece-next-2.ensures.by_index ys k) c.store_end.ensures.loose);
      value = omega arith;
    }
