-- `matrix_check::take_node` meets its contract: the node's tests by its kind, and the nodes that it names counted.
-- Assumes nothing.
use mathlib.Core.Path.{sym, ◌∙◌}
use native.Mathlib.Omega.{arith}
use borrow.Author.Tests.{ne_eqb}
use Rattle.matrix_check.proofs.Nodes.{fault_sound, tallied_more, leaf_counted}
use Rattle.matrix_check.proofs.take_node.Goals as goal

pub take_operator-requires : goal.take_operator-requires
take_operator-requires c =
    record {
      kind_value = c.if-node-eq-OPERATOR.true;
      i_in_bounds = omega (arith, c.requires.i_bound, c.requires.tallied.wide);
    }

pub returns-then-node-eq-OPERATOR : goal.returns-then-node-eq-OPERATOR
returns-then-node-eq-OPERATOR c =
    let r = rw c.node_at-node.ensures at c.take_operator.ensures in record {
      value = r.value ∙ sym (fault_sound c.args.nodes.now c.args.i);
      tallied_2 = λ z. tallied_more _ _ _ _ c.take_operator.auto.named c.requires.tallied (r.tally z);
    }

pub take_negation-requires : goal.take_negation-requires
take_negation-requires c =
    record {
      kind_value = c.if-node-eq-NEGATION.true;
      i_in_bounds = omega (arith, c.requires.i_bound, c.requires.tallied.wide);
    }

pub returns-then-node-eq-NEGATION : goal.returns-then-node-eq-NEGATION
returns-then-node-eq-NEGATION c =
    let r = rw c.node_at-node.ensures at c.take_negation.ensures in record {
      value = r.value ∙ sym (fault_sound c.args.nodes.now c.args.i);
      tallied_2 = λ z. tallied_more _ _ _ _ c.take_negation.auto.named c.requires.tallied (r.tally z);
    }

pub sound_leaf-requires : goal.sound_leaf-requires
sound_leaf-requires c = (ne_eqb _ 3 c.if-node-eq-NEGATION.false, ne_eqb _ 4 c.if-node-eq-OPERATOR.false)

pub returns : goal.returns
returns c =
    let e = c.node_at-node.ensures in
    let r = rw e at (c.sound_leaf.ensures c.args.i) in
    let d3 = rw e at c.if-node-eq-NEGATION.false in
    let d4 = rw e at c.if-node-eq-OPERATOR.false in record {
      value = r ∙ sym (fault_sound c.args.nodes.now c.args.i);
      tallied_2 = λ z. leaf_counted _ _ _ (rw r at z) d3 d4 c.requires.tallied;
    }
