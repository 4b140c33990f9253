-- `table_check::operator_fault` meets its contract: the tests of refusals 3 and 4 at an operator; past them its operands are lower, and both are counted.
-- Assumes nothing.
use mathlib.Core.Path.{sym}
use lib.Dec.{leb}
use borrow.Author.Tests.{leb-false}
use Rattle.lists.specs.Choice.{or_neither_left, or_neither_right}
use Rattle.table_check.proofs.Faults.{operator_malformed, operator_forward, operator_sound}
use Rattle.tree_check.proofs.Named.{times_one_le, times_two, names_operator}
use native.Mathlib.Omega.{arith}
use Rattle.table_check.proofs.operator_fault.Goals as goal

pub returns-then-node-gt15 : goal.returns-then-node-gt15
returns-then-node-gt15 c =
    record {
      value = sym (operator_malformed _ _ c.requires.kind_value c.if-node-gt15.true);
      x_after = λ z. absurd (omega arith);
    }

pub returns-then-i-node : goal.returns-then-i-node
returns-then-i-node c =
    record {
      value = sym (operator_forward _ _ c.requires.kind_value c.if-node-gt15.false c.if-i-node.true);
      x_after = λ z. absurd (omega arith);
    }

pub count_name-requires : goal.count_name-requires
count_name-requires c =
    let a = c.args in
    let room = c.requires.room in
    let l = leb-false a.i a.node.b (or_neither_left _ _ c.if-i-node.false) in
    (omega (arith, room.wide), omega (arith, room.room a.node.b))

pub count_name-requires-2 : goal.count_name-requires-2
count_name-requires-2 c =
    let a = c.args in
    let room = c.requires.room in
    let l = leb-false a.i a.node.c (or_neither_right (leb a.i a.node.b) _ c.if-i-node.false) in
    (omega (arith, room.wide, c.count_name.auto.named), omega (arith, room.room a.node.c, c.count_name.ensures a.node.c, times_one_le a.node.c a.node.b))

pub returns : goal.returns
returns c =
    let k = c.requires.kind_value in record {
      value = sym (operator_sound _ _ k c.if-node-gt15.false c.if-i-node.false);
      x_after = λ z x. rw (names_operator c.args.node k, times_two) (omega (arith, c.count_name.ensures x, c.count_name-2.ensures x));
    }
