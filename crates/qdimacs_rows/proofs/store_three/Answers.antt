-- `qdimacs_rows::store_three` meets its contract.
-- Assumes nothing.
use native.Mathlib.Omega.{arith}
use Rattle.qdimacs_words.proofs.Loose.{loose_then}
use Rattle.qdimacs_rows.proofs.store_three.Goals as goal

pub returns : goal.returns
returns c =
    record {
      by_index = λ xs ys zs h k l. loose_then (c.store_piece-next.ensures.by_index xs h) (c.store_two.ensures.by_index ys zs k l);
      value = omega arith;
    }
