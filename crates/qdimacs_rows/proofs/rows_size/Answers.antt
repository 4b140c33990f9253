-- `qdimacs_rows::rows_size` meets its contract: the sizes of the three numbers give that of the four rows.
-- Assumes nothing.
use native.Mathlib.Omega.{arith}
use Rattle.qdimacs_rows.proofs.Lines.{two_length}
use Rattle.qdimacs_rows.proofs.rows_size.Goals as goal

pub overflow_add-result : goal.overflow_add-result
overflow_add-result c =
    let p = c.requires in
    let l = (c.positive-left.ensures p.1.0 p.1.1.writable p.1.1.word_of).1 in
    let r = (c.positive-right.ensures p.2.0 p.2.1.writable p.2.1.word_of).1 in
    let o = (c.positive-own.ensures p.0.0 p.0.1.writable p.0.1.word_of).1 in
    omega arith

pub overflow_add-result-2 : goal.overflow_add-result-2
overflow_add-result-2 c =
    let p = c.requires in
    let l = (c.positive-left.ensures p.1.0 p.1.1.writable p.1.1.word_of).1 in
    let r = (c.positive-right.ensures p.2.0 p.2.1.writable p.2.1.word_of).1 in
    let o = (c.positive-own.ensures p.0.0 p.0.1.writable p.0.1.word_of).1 in
    omega arith

pub overflow_mul-result : goal.overflow_mul-result
overflow_mul-result c =
    let p = c.requires in
    let l = (c.positive-left.ensures p.1.0 p.1.1.writable p.1.1.word_of).1 in
    let r = (c.positive-right.ensures p.2.0 p.2.1.writable p.2.1.word_of).1 in
    let o = (c.positive-own.ensures p.0.0 p.0.1.writable p.0.1.word_of).1 in
    omega arith

pub overflow_add-result-3 : goal.overflow_add-result-3
overflow_add-result-3 c =
    let p = c.requires in
    let l = (c.positive-left.ensures p.1.0 p.1.1.writable p.1.1.word_of).1 in
    let r = (c.positive-right.ensures p.2.0 p.2.1.writable p.2.1.word_of).1 in
    let o = (c.positive-own.ensures p.0.0 p.0.1.writable p.0.1.word_of).1 in
    omega arith

pub returns : goal.returns
returns c =
    let p = c.requires in
    let l = c.positive-left.ensures in
    let r = c.positive-right.ensures in
    let o = c.positive-own.ensures in record {
      by_index = λ g a b w u v. omega (
        arith,
        two_length c.args.table g a b p.3,
        (l a u.writable u.word_of).0.sized,
        (r b v.writable v.word_of).0.sized,
        (o g w.writable w.word_of).0.sized,
      );
      upper_bound = omega (
        arith,
        (l p.1.0 p.1.1.writable p.1.1.word_of).1,
        (r p.2.0 p.2.1.writable p.2.1.word_of).1,
        (o p.0.0 p.0.1.writable p.0.1.word_of).1,
      );
    }
