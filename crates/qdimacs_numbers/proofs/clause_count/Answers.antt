-- `qdimacs_numbers::clause_count` meets its contract, kind by kind.
-- Assumes nothing.
use mathlib.Core.Path.{sym}
use Rattle.qdimacs_numbers.proofs.Counts.{count_constant, count_one, count_same, count_two}
use Rattle.qdimacs_numbers.proofs.clause_count.Goals as goal

pub returns-then-node-eq-CONSTANT : goal.returns-then-node-eq-CONSTANT
returns-then-node-eq-CONSTANT c = sym (count_constant _ _ _ c.if-node-eq-CONSTANT.true)

pub returns-then-node-ne-OPERATOR : goal.returns-then-node-ne-OPERATOR
returns-then-node-ne-OPERATOR c = sym (count_one _ _ _ c.if-node-eq-CONSTANT.false c.if-node-ne-OPERATOR.true)

pub bounds-words-left : goal.bounds-words-left
bounds-words-left c = (c.requires c.if-node-ne-OPERATOR.false).0

pub bounds-words-right : goal.bounds-words-right
bounds-words-right c = (c.requires c.if-node-ne-OPERATOR.false).1

pub returns-then-words-left : goal.returns-then-words-left
returns-then-words-left c = sym (count_same _ _ _ c.if-node-ne-OPERATOR.false c.if-words-left.true)

pub returns : goal.returns
returns c = sym (count_two _ _ _ c.if-node-ne-OPERATOR.false c.if-words-left.false)
