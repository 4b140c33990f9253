-- `qdimacs_clauses::put_operator` meets its contract: one word is one variable, and two words are two.
-- Assumes nothing.
use native.Mathlib.Omega.{arith}
use Rattle.formula.specs.Truth.{operator_value}
use Rattle.qdimacs_words.proofs.Loose.{loose_as}
use Rattle.qdimacs_rows.proofs.Lines.{bit_none, bit_both}
use Rattle.qdimacs_clauses.proofs.Operators.{same_operands, different_operands}
use Rattle.qdimacs_clauses.proofs.put_operator.Goals as goal

pub returns-then-x-y : goal.returns-then-x-y
returns-then-x-y c =
    record {
      by_index = λ g a b w u v below lower. loose_as
          (same_operands g (operator_value c.args.table) u v below (omega arith))
          (c.put_one_operand.ensures.by_index g a (λ p. operator_value c.args.table p p) w u (bit_none c.args.table) (bit_both c.args.table c.requires.3));
      upper_bound = omega arith;
    }

pub returns : goal.returns
returns c =
    record {
      by_index = λ g a b w u v below lower. loose_as
          (different_operands g (operator_value c.args.table) u v below (λ z. omega arith) lower)
          (c.put_two_operands.ensures.by_index g a b w u v);
      upper_bound = omega arith;
    }
