-- `qdimacs_rows::put_two_operands` meets its contract: the rows are stored, or only counted.
-- Assumes nothing.
use native.Mathlib.Omega.{arith}
use Rattle.qdimacs_words.proofs.Loose.{loose_counted}
use Rattle.qdimacs_rows.proofs.put_two_operands.Goals as goal

pub store_rows-requires : goal.store_rows-requires
store_rows-requires c =
    let p = c.requires in record {
      some_word = (p.0, p.1, p.2, p.3);
      by_index = λ g a b w u v. omega (arith, c.rows_size.ensures.by_index g a b w u v);
    }

pub returns-then-next-text : goal.returns-then-next-text
returns-then-next-text c =
    let p = c.requires in
    let r = c.store_rows.ensures in record {
      by_index = r;
      upper_bound = omega (arith, c.rows_size.ensures.by_index p.0.0 p.1.0 p.2.0 p.0.1 p.1.1 p.2.1, (r p.0.0 p.1.0 p.2.0 p.0.1 p.1.1 p.2.1).counted);
    }

pub returns : goal.returns
returns c =
    record {
      by_index = λ g a b w u v. loose_counted (omega (arith, c.rows_size.ensures.by_index g a b w u v)) (omega arith);
      upper_bound = omega arith;
    }
