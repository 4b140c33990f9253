-- `scopes::fill_scopes` meets its contract. The loop's invariant: the pass has visited the nodes from i up, one by one, and counted their
-- blocks.
-- Assumes nothing.
use mathlib.Core.Path.{◌≡◌, subst}
use Prim.Native.Nat.{◌+◌, ◌-◌}
use native.Mathlib.Omega.{arith}
use Rattle.formula.specs.Words.{node_count, table_of}
use Rattle.block_counts.specs.Counting.{CountsFrom}
use Rattle.scopes.specs.Passes.{ScopesFrom}
use Rattle.arrays.proofs.Nodes.{accepted_tree, nodes_few}
use Rattle.scopes.proofs.Nodes.{nodes_some}
use Rattle.scopes.proofs.Scopes.{scopes_begun, scopes_end}
use Rattle.block_counts.proofs.Counting.{counts_none, counts_end}
use Rattle.scopes.proofs.fill_scopes.Goals as goal

pub overflow_cast-parents : goal.overflow_cast-parents
overflow_cast-parents c = omega (arith, nodes_few c.args.words.now c.args.list.now c.requires.list_value)

pub overflow_sub-parents : goal.overflow_sub-parents
overflow_sub-parents c = omega (arith, nodes_some c.args.words.now c.args.list.now c.requires.list_value)

pub offset_bounds-parents-count : goal.offset_bounds-parents-count
offset_bounds-parents-count c = omega (arith, nodes_few c.args.words.now c.args.list.now c.requires.list_value)

pub bounds-parents-count : goal.bounds-parents-count
bounds-parents-count c = omega (arith, nodes_few c.args.words.now c.args.list.now c.requires.list_value, nodes_some c.args.words.now c.args.list.now c.requires.list_value)

pub overflow_sub-levels : goal.overflow_sub-levels
overflow_sub-levels c = omega (arith, nodes_some c.args.words.now c.args.list.now c.requires.list_value)

pub offset_bounds-levels-count : goal.offset_bounds-levels-count
offset_bounds-levels-count c = omega (arith, nodes_few c.args.words.now c.args.list.now c.requires.list_value)

pub bounds-levels-count : goal.bounds-levels-count
bounds-levels-count c = omega (arith, nodes_few c.args.words.now c.args.list.now c.requires.list_value, nodes_some c.args.words.now c.args.list.now c.requires.list_value)

pub loop-i-init : goal.loop-i-init
unfolding table_of
loop-i-init c = (
  omega arith,
  scopes_begun c.args.words.now c.args.list.now c.requires.list_value c.args.parents.now c.args.levels.now c.requires.parents_len.0 c.requires.parents_len.1,
  rw c.no_blocks.ensures (counts_none (table_of c.args.words.now c.args.list.now)),
)

pub fill_node-requires-clause-i_bound : goal.fill_node-requires-clause-i_bound
fill_node-requires-clause-i_bound c = omega (arith, c.loop-i.invariant.0, nodes_few c.args.words.now c.args.list.now c.requires.list_value)

pub fill_node-requires-clause-scopes_from : goal.fill_node-requires-clause-scopes_from
fill_node-requires-clause-scopes_from c =
    let l = c.loop-i in
    let e : l.i ≡ l.i - 1 + 1 = omega arith in
    subst (λ k. ScopesFrom (table_of c.args.words.now c.args.list.now) k l.parents l.levels) e l.invariant.1

pub fill_node-requires-clause-counts_from : goal.fill_node-requires-clause-counts_from
fill_node-requires-clause-counts_from c =
    let l = c.loop-i in
    let e : l.i ≡ l.i - 1 + 1 = omega arith in
    subst (λ k. CountsFrom (table_of c.args.words.now c.args.list.now) k l.pass.counts) e l.invariant.2

pub loop-i-preserved : goal.loop-i-preserved
loop-i-preserved c =
    let e = c.fill_node.ensures in
    (omega (arith, c.loop-i.invariant.0, e.visited_value), e.scopes_from_2, e.counts_from_2)

pub returns : goal.returns
returns c =
    let l = c.loop-i in
    let v : l.pass.visited ≡ node_count c.args.words.now = omega (arith, l.invariant.0) in
    let z : l.i ≡ 0 = omega arith in
    let r = scopes_end (table_of c.args.words.now c.args.list.now) (accepted_tree c.args.words.now c.args.list.now c.requires.list_value) _ _ _ z l.invariant.1 in record {
      parents = r.0;
      levels = r.1;
      visited = v;
      counts = counts_end (table_of c.args.words.now c.args.list.now) _ _ z l.invariant.2;
    }
