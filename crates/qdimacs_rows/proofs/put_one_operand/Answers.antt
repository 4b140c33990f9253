-- `qdimacs_rows::put_one_operand` meets its contract: both rows are stored, or only counted.
-- Assumes nothing.
use native.Mathlib.Omega.{arith}
use Rattle.qdimacs_words.proofs.Loose.{loose_then, loose_as, loose_counted}
use Rattle.qdimacs_rows.proofs.Lines.{one_lines, one_sizes, says}
use Rattle.qdimacs_rows.proofs.put_one_operand.Goals as goal

pub returns-then-next-text : goal.returns-then-next-text
returns-then-next-text c =
    let l = c.literal-operand.ensures.by_index in
    let t = c.literal-turned.ensures.by_index in
    let o = c.literal-first.ensures.by_index in
    let q = c.literal-second.ensures.by_index in record {
      by_index = λ g a f w u d e. loose_as (one_lines g f a)
          (loose_then
          (c.store_two-middle.ensures.by_index _ _ (l a u) (says g d (o g w)))
          (c.store_two.ensures.by_index _ _ (t a u) (says g e (q g w))));
      upper_bound = omega arith;
    }

pub returns : goal.returns
returns c =
    let l = c.literal-operand.ensures.by_index in
    let t = c.literal-turned.ensures.by_index in
    let o = c.literal-first.ensures.by_index in
    let q = c.literal-second.ensures.by_index in record {
      by_index = λ g a f w u d e. loose_counted
          (omega (
            arith,
            one_sizes g f a,
            (l a u).sized,
            (t a u).sized,
            (says g d (o g w)).sized,
            (says g e (q g w)).sized,
          ))
          (omega arith);
      upper_bound = omega arith;
    }
