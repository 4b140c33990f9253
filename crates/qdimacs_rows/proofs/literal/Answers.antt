-- `qdimacs_rows::literal` meets its contract.
-- Assumes nothing.
use mathlib.Core.Path.{sym}
use native.Mathlib.Omega.{arith}
use Rattle.qdimacs_rows.proofs.Lines.{says}
use Rattle.qdimacs_rows.proofs.literal.Goals as goal

pub returns-then-value : goal.returns-then-value
returns-then-value c =
    let p = c.requires in
    let of = c.positive.ensures in record {
      by_index = λ g w. says g (sym c.if-value.true) (of g w.writable w.word_of).0;
      length_bound = omega (arith, (of p.0 p.1.writable p.1.word_of).1);
    }

pub returns : goal.returns
returns c =
    let p = c.requires in
    let of = c.negative.ensures in record {
      by_index = λ g w. says g (sym c.if-value.false) (of g w.writable w.word_of).0;
      length_bound = (of p.0 p.1.writable p.1.word_of).1;
    }
