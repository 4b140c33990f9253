-- `table_check::check_nodes` meets its contract: the loop's invariant is `Checked`, of the nodes passed so far, with the chains of the
-- entries that they cover and the counts of the nodes that they name; a fault makes the node the lowest with one.
-- Assumes nothing.
use mathlib.Core.Path.{◌≡◌, sym, ◌∙◌, ap}
use Rattle.formula.specs.Words.{node_count}
use Rattle.refusals.specs.Verdict.{refusal}
use Rattle.refusals.specs.declared.Verdict.{Verdict}
use Rattle.table_check.proofs.Faults.{checked_none, checked_more, checked_refused, not_refused, nodes_passed}
use native.Mathlib.Omega.{arith}
use Rattle.table_check.proofs.check_nodes.Goals as goal

pub loop-i-init : goal.loop-i-init
loop-i-init c =
    let new = c.new-chains.ensures in
    (rw new.0 (checked_none _ _ _), new.1, c.requires.counted)

pub node_fault-fault-requires : goal.node_fault-fault-requires
node_fault-fault-requires c =
    let inv = c.loop-i.invariant in record {
      i_bound = (c.loop-i-test.true, c.requires.words_bound);
      entries_value = (inv.0.counted, inv.0.few);
      ready = inv.1;
      counted = inv.2;
    }

pub returns-then-refuses : goal.returns-then-refuses
unfolding refusal
returns-then-refuses c =
    let e = c.node_fault-fault.ensures.value in
    let f = rw e at (sym c.refuses.ensures ∙ c.if-refuses.true) in
    let r = checked_refused _ _ _ _ c.loop-i.i c.loop-i-test.true c.loop-i.invariant.0 f in record {
      value = c.refusal.ensures ∙ ap (λ f. refusal f c.loop-i.i) e ∙ sym r.0;
      counted_2 = λ z. absurd (r.1 (sym e ∙ sym (ap (λ (v : Verdict). v.number) c.refusal.ensures) ∙ z));
    }

pub loop-i-preserved : goal.loop-i-preserved
loop-i-preserved c =
    let r = c.node_fault-fault.ensures in
    let inv = c.loop-i.invariant in
    let f = sym c.refuses.ensures ∙ c.if-refuses.false in
    let p = (not_refused c.args.empty c.node_fault-fault.result f).0 in
    (checked_more _ _ _ _ _ _ inv.0 (rw r.value at f) (r.entries_after p), r.ready_2 p, r.counted_2 p)

pub returns : goal.returns
returns c =
    let l = c.loop-i in
    let all : node_count c.args.words.now ≡ l.i = omega arith in record {
      value = c.accepted.ensures ∙ sym (nodes_passed _ _ _ (rw all l.invariant.0.faultless));
      counted_2 = λ z. rw all l.invariant.2;
    }
