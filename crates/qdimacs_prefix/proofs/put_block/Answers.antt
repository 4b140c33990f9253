-- `qdimacs_prefix::put_block` meets its contract. The kind of the line after an empty block is found by `grind`, whatever makes the line, so
-- that an edit of it falls at its value and not at its form.
-- Assumes nothing.
use mathlib.Core.Path.{sym, ◌∙◌}
use mathlib.Core.List.{[]}
use native.Mathlib.Omega.{arith}
use borrow.Author.Tests.{eqb-true, eqb-false}
use Rattle.qdimacs_words.specs.Words.{Loose}
use Rattle.qdimacs_words.proofs.Loose.{loose_none}
use Rattle.qdimacs_prefix.specs.Lines.{quantifier_kind}
use Rattle.qdimacs_prefix.proofs.Steps.{unended_length, block_empty, block_put}
use Rattle.qdimacs_prefix.proofs.put_block.Goals as goal

pub returns-then-is_empty : goal.returns-then-is_empty
returns-then-is_empty c =
    let kept : Loose c.args.text.now c.args.line.at [] c.args.text.now c.args.line.at = loose_none in
    let none = eqb-true _ _ (sym c.is_empty.ensures ∙ c.if-is_empty.true) in record {
      goes = block_empty (quantifier_kind c.args.quantifier) c.args.names.now none (grind arith) (grind (arith, unended_length)) (search);
      at_bound = grind (arith, unended_length);
    }

pub returns : goal.returns
returns c =
    let some = eqb-false _ _ (sym c.is_empty.ensures ∙ c.if-is_empty.false) in record {
      goes = block_put (quantifier_kind c.args.quantifier) c.args.names.now some c.turn_line-next.ensures.goes c.put_names.ensures.loose;
      at_bound = omega arith;
    }
