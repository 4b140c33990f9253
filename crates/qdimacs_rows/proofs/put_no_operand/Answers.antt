-- `qdimacs_rows::put_no_operand` meets its contract: the clause is stored, or only counted.
-- Assumes nothing.
use native.Mathlib.Omega.{arith}
use Rattle.qdimacs_words.proofs.Loose.{loose_then, loose_as, loose_counted}
use Rattle.qdimacs_rows.proofs.Lines.{none_lines, none_size}
use Rattle.qdimacs_rows.proofs.put_no_operand.Goals as goal

pub returns-then-next-text : goal.returns-then-next-text
returns-then-next-text c =
    record {
      by_index = λ g w. loose_as (none_lines g _)
          (loose_then (c.store_piece-end.ensures.by_index _ (c.literal-own.ensures.by_index g w)) c.store_end.ensures.loose);
      upper_bound = omega arith;
    }

pub returns : goal.returns
returns c =
    record {
      by_index = λ g w. loose_counted (omega (arith, (c.literal-own.ensures.by_index g w).sized, none_size g c.args.value)) (omega arith);
      upper_bound = omega arith;
    }
