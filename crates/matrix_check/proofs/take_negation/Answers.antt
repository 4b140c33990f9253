-- `matrix_check::take_negation` meets its contract: the tests of refusals 3 and 4 at a not node; past them its operand is lower and counted.
-- Assumes nothing.
use mathlib.Core.Bool.{true≢false, ◌&&◌}
use mathlib.Core.Path.{sym, ◌∙◌}
use native.Mathlib.Omega.{arith}
use lib.Dec.{eqb}
use borrow.Author.Tests.{leb-false, not-true}
use Rattle.lists.specs.Choice.{and_right}
use Rattle.matrix_check.proofs.Nodes.{sound_negation, tally_negation}
use Rattle.matrix_check.proofs.take_negation.Goals as goal

pub returns-then-not-node-i : goal.returns-then-not-node-i
returns-then-not-node-i c =
    record {
      value = sym (sound_negation _ _ c.requires.kind_value ∙ c.if-not-node-i.true);
      tally = λ z. absurd (true≢false (sym z));
    }

pub count_name-requires : goal.count_name-requires
count_name-requires c =
    let t = not-true _ (and_right (eqb c.args.node.b 0 && eqb c.args.node.c 0) _ (c.if-not-node-i.false)) in
    let l = leb-false c.args.i c.args.node.a t in
    omega (arith, l, c.requires.i_in_bounds)

pub returns : goal.returns
returns c =
    record {
      value = sym (sound_negation _ _ c.requires.kind_value ∙ c.if-not-node-i.false);
      tally = λ z f t. tally_negation c.count_name.new.named f c.args.node c.requires.kind_value (c.count_name.ensures f t);
    }
