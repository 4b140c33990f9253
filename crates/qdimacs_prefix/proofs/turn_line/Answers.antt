-- `qdimacs_prefix::turn_line` meets its contract.
-- Assumes nothing.
use mathlib.Core.Path.{refl, sym, ◌∙◌}
use native.Mathlib.Omega.{arith}
use Rattle.qdimacs_prefix.proofs.Steps.{goes_same, goes_turned, tested_true, tested_false}
use Rattle.qdimacs_prefix.proofs.turn_line.Goals as goal

pub returns-then-eq : goal.returns-then-eq
returns-then-eq c =
    record {
      goes = goes_same c.args.quantifier (tested_true _ _ _ refl refl (sym c.eq.ensures ∙ c.if-eq.true));
      at_bound = omega arith;
    }

pub returns : goal.returns
returns c =
    record {
      goes = goes_turned c.args.quantifier (tested_false _ _ _ refl refl (sym c.eq.ensures ∙ c.if-eq.false))
          c.end_line-end.ensures.loose
          (rw c.line_start.ensures at c.put_word.ensures);
      at_bound = omega arith;
    }
