-- `table_check::negation_fault` meets its contract: the tests of refusals 3 and 4 at a negation; past them its operand is lower, and is counted.
-- Assumes nothing.
use mathlib.Core.Path.{sym}
use Rattle.table_check.proofs.Faults.{negation_malformed, negation_forward, negation_sound}
use Rattle.tree_check.proofs.Named.{names_negation}
use native.Mathlib.Omega.{arith}
use Rattle.table_check.proofs.negation_fault.Goals as goal

pub returns-then-not-node : goal.returns-then-not-node
returns-then-not-node c =
    record {
      value = sym (negation_malformed _ _ c.requires.kind_value (c.if-not-node.true));
      x_after = λ z. absurd (omega arith);
    }

pub returns-then-i-node : goal.returns-then-i-node
returns-then-i-node c =
    record {
      value = sym (negation_forward _ _ c.requires.kind_value (c.if-not-node.false) c.if-i-node.true);
      x_after = λ z. absurd (omega arith);
    }

pub count_name-requires : goal.count_name-requires
count_name-requires c = let room = c.requires.room in (omega (arith, room.wide), omega (arith, room.room c.args.node.a))

pub returns : goal.returns
returns c =
    let k = c.requires.kind_value in record {
      value = sym (negation_sound _ _ k (c.if-not-node.false) c.if-i-node.false);
      x_after = λ z x. rw (names_negation c.args.node k) (c.count_name.ensures x);
    }
