-- `matrix_check::take_operator` meets its contract: the tests of refusals 3 and 4 at an operator; past them its operands are lower, and both are counted.
-- Assumes nothing.
use mathlib.Core.Bool.{true≢false}
use mathlib.Core.Path.{sym, ◌∙◌}
use native.Mathlib.Omega.{arith}
use lib.Dec.{leb}
use borrow.Author.Tests.{leb-false, not-true}
use Rattle.lists.specs.Choice.{and_right, or_neither_left, or_neither_right}
use Rattle.matrix_check.proofs.Nodes.{sound_operator, tally_operator}
use Rattle.matrix_check.proofs.take_operator.Goals as goal

pub returns-then-not-node-i : goal.returns-then-not-node-i
returns-then-not-node-i c =
    record {
      value = sym (sound_operator _ _ c.requires.kind_value ∙ c.if-not-node-i.true);
      tally = λ z. absurd (true≢false (sym z));
    }

pub count_name-requires : goal.count_name-requires
count_name-requires c =
    let t = not-true _ (and_right (leb c.args.node.a 15) _ (c.if-not-node-i.false)) in
    let l = leb-false c.args.i c.args.node.b (or_neither_left _ _ t) in
    omega (arith, l, c.requires.i_in_bounds)

pub count_name-requires-2 : goal.count_name-requires-2
count_name-requires-2 c =
    let t = not-true _ (and_right (leb c.args.node.a 15) _ (c.if-not-node-i.false)) in
    let l = leb-false c.args.i c.args.node.c (or_neither_right (leb c.args.i c.args.node.b) _ t) in
    omega (arith, l, c.requires.i_in_bounds, c.count_name.auto.named)

pub returns : goal.returns
returns c =
    record {
      value = sym (sound_operator _ _ c.requires.kind_value ∙ c.if-not-node-i.false);
      tally = λ z f t. tally_operator c.count_name-2.new.named f c.args.node c.requires.kind_value (c.count_name-2.ensures _ (c.count_name.ensures f t));
    }
