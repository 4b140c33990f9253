-- `chains::chain_members` meets its contract. The loop's invariant: the pass has done the nodes from i up. One step of it is the law
-- `variable_passed`, `block_passed` or `plain_passed`.
-- Assumes nothing.
use mathlib.Core.Path.{◌≡◌, sym, ◌∙◌, subst}
use mathlib.Core.Bool.{true}
use Prim.Native.Nat.{◌+◌, ◌-◌, ◌<◌}
use native.Mathlib.Omega.{arith}
use borrow.Author.Rules.{rules}
use Rattle.formula.specs.Node.{is_block}
use Rattle.formula.specs.Words.{node_count, node_at, table_of}
use Rattle.acceptance.proofs.Accepted.{accepted_holds}
use Rattle.prenex_form.proofs.Limits.{highest_limit}
use Rattle.arrays.proofs.Members.{block_member}
use Rattle.arrays.proofs.Nodes.{nodes_few, block_read}
use Rattle.chains.specs.Chaining.{ChainedFrom}
use Rattle.chains.proofs.Nodes.{variable_member}
use Rattle.chains.proofs.Chaining.{
  passed_none,
  entries_within,
  start_fits,
  variable_passed,
  plain_passed,
  block_passed,
  members_done,
  starts_done,
  highest_done,
}
use Rattle.chains.proofs.chain_members.Goals.{In-loop-i, Then-is_block_kind}
use Rattle.chains.proofs.chain_members.Goals as goal

pub loop-i-init : goal.loop-i-init
loop-i-init c = passed_none c.args.words.now c.args.list.now _ _ _ _ c.requires.bound_value c.requires.cleared.0 c.requires.cleared.1

-- the node, below those that are done
below : (c : In-loop-i) → c.loop-i.i - 1 < node_count c.args.words.now
below c = omega arith

done-above : (c : In-loop-i)
    → ChainedFrom (table_of c.args.words.now c.args.list.now) (c.loop-i.i - 1 + 1) c.loop-i.firsts c.loop-i.nexts c.loop-i.starts c.loop-i.passed
done-above c =
    let e : c.loop-i.i ≡ c.loop-i.i - 1 + 1 = omega arith in
    subst (λ k. ChainedFrom (table_of c.args.words.now c.args.list.now) k c.loop-i.firsts c.loop-i.nexts c.loop-i.starts c.loop-i.passed) e c.loop-i.invariant

block_here : (c : Then-is_block_kind) → is_block (node_at c.args.words.now c.args.list.now (c.loop-i.i - 1)) ≡ true
block_here c = sym (c.is_block_kind.ensures ∙ block_read _ c.args.list.now (c.loop-i.i - 1) _ c.node_at-node.ensures) ∙ c.if-is_block_kind.true

pub chain_member-requires-clause-i_bound : goal.chain_member-requires-clause-i_bound
chain_member-requires-clause-i_bound c =
    (omega arith, variable_member _ _ _ _ c.node_at-node.ensures c.if-node-eq-VARIABLE.true)

pub chain_member-requires-clause-members_from : goal.chain_member-requires-clause-members_from
chain_member-requires-clause-members_from c = (done-above (goal.at.chain_member-requires-clause-members_from c).In-loop-i).members_linked

pub loop-i-preserved-then-node-eq-VARIABLE : goal.loop-i-preserved-then-node-eq-VARIABLE
loop-i-preserved-then-node-eq-VARIABLE c =
    let i = (goal.at.loop-i-preserved-then-node-eq-VARIABLE c).In-loop-i in
    let m = c.chain_member in
    variable_passed _ _ c.requires.list_value _ (below i) _ _ _ _ (done-above i) _ _ m.auto.firsts m.auto.nexts m.ensures
    _ c.node_at-node.ensures c.if-node-eq-VARIABLE.true _ (search rules)

pub chain_member-requires-then-is_block_kind-clause-i_bound : goal.chain_member-requires-then-is_block_kind-clause-i_bound
chain_member-requires-then-is_block_kind-clause-i_bound c =
    (omega arith, block_member _ (block_here (goal.at.chain_member-requires-then-is_block_kind-clause-i_bound c).Then-is_block_kind))

pub chain_member-requires-then-is_block_kind-clause-members_from : goal.chain_member-requires-then-is_block_kind-clause-members_from
chain_member-requires-then-is_block_kind-clause-members_from c = (done-above (goal.at.chain_member-requires-then-is_block_kind-clause-members_from c).In-loop-i).members_linked

pub count_block-requires-clause-i_in_bounds : goal.count_block-requires-clause-i_in_bounds
count_block-requires-clause-i_in_bounds c =
    omega (arith, nodes_few c.args.words.now c.args.list.now c.requires.list_value, c.loop-i.invariant.starts_length)

pub count_block-requires-clause-entries_counted : goal.count_block-requires-clause-entries_counted
count_block-requires-clause-entries_counted c =
    let i = (goal.at.count_block-requires-clause-entries_counted c).In-loop-i in
    start_fits _ _ c.requires.list_value _ (below i) _ _ _ _ (done-above i) _ c.node_at-node.ensures
    (block_here (goal.at.count_block-requires-clause-entries_counted c).Then-is_block_kind)

pub count_block-requires-clause-entries_in_bounds : goal.count_block-requires-clause-entries_in_bounds
count_block-requires-clause-entries_in_bounds c =
    entries_within _ _ c.requires.list_value _ (below (goal.at.count_block-requires-clause-entries_in_bounds c).In-loop-i) _ c.node_at-node.ensures
    (block_here (goal.at.count_block-requires-clause-entries_in_bounds c).Then-is_block_kind)

pub loop-i-preserved-then-is_block_kind : goal.loop-i-preserved-then-is_block_kind
loop-i-preserved-then-is_block_kind c =
    let i = (goal.at.loop-i-preserved-then-is_block_kind c).In-loop-i in
    let m = c.chain_member-then-is_block_kind in
    let e = c.count_block.ensures in
    block_passed _ _ c.requires.list_value _ (below i) _ _ _ _ (done-above i) _ _ m.auto.firsts m.auto.nexts m.ensures
    _ c.node_at-node.ensures (block_here (goal.at.loop-i-preserved-then-is_block_kind c).Then-is_block_kind) _ _ e.starts_after e.start_value e.highest_value

pub loop-i-preserved : goal.loop-i-preserved
loop-i-preserved c =
    let i = (goal.at.loop-i-preserved c).In-loop-i in
    plain_passed _ _ c.requires.list_value _ (below i) _ _ _ _ (done-above i) _ c.node_at-node.ensures c.if-node-eq-VARIABLE.false
    (sym (c.is_block_kind.ensures ∙ block_read _ c.args.list.now (c.loop-i.i - 1) _ c.node_at-node.ensures) ∙ c.if-is_block_kind.false)

pub returns : goal.returns
returns c =
    let l = c.loop-i in
    let z : l.i ≡ 0 = omega (arith, c.loop-i-test.false) in
    let h = highest_done c.args.words.now c.args.list.now _ _ _ _ _ z l.invariant in
    let k = highest_limit c.args.words.now c.args.list.now (accepted_holds c.args.words.now c.args.list.now c.requires.list_value) in record {
      chains = members_done c.args.words.now c.args.list.now _ _ _ _ _ z l.invariant;
      starts = starts_done c.args.words.now c.args.list.now _ _ _ _ _ z l.invariant;
      highest = (h, omega (arith, h, k));
    }
