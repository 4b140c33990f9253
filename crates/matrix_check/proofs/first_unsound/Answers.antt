-- `matrix_check::first_unsound` meets its contract: the loop's invariant: no refusal applies to the nodes passed, and the nodes that they name are counted.
-- Assumes nothing.
use mathlib.Core.Bool.{not}
use mathlib.Core.Path.{◌≡◌, sym, ◌∙◌, ap}
use native.Mathlib.Omega.{arith}
use borrow.Author.Count.{below_more}
use Rattle.lists.proofs.Search.{lowest_is}
use Rattle.formula.specs.Words.{node_count}
use Rattle.matrix_check.proofs.first_unsound.Goals as goal

pub loop-i-init : goal.loop-i-init
loop-i-init c = (c.requires.tallied, λ k l. absurd (omega arith))

pub take_node-requires : goal.take_node-requires
take_node-requires c =
    record {
      i_bound = (c.loop-i-test.true, c.requires.nodes_bound);
      tallied = c.loop-i.invariant.0;
    }

pub returns-then-not-take_node : goal.returns-then-not-take_node
returns-then-not-take_node c =
    let l = c.loop-i in
    (c.loop-i-test.true, sym (lowest_is _ _ l.i c.loop-i-test.true (ap not (sym c.take_node.ensures.value ∙ c.if-not-take_node.true)) (λ k h. ap not (l.invariant.1 k h))))

pub loop-i-preserved : goal.loop-i-preserved
loop-i-preserved c =
    let r = c.take_node.ensures in
    let t = c.if-not-take_node.false in
    (r.tallied_2 t, below_more _ _ c.loop-i.invariant.1 (sym r.value ∙ t))

pub returns : goal.returns
returns c =
    let l = c.loop-i in
    let all : node_count c.args.nodes.now ≡ l.i = omega arith in
    (rw all l.invariant.1, rw all l.invariant.0)
