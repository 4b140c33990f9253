-- `binders::enter` meets its contract. The loop's invariant: the scope's entries from the block's kth on are chained.
-- Assumes nothing.
use mathlib.Core.Path.{◌≡◌, sym}
use Prim.Native.Nat.{◌-◌, ◌<◌}
use native.Mathlib.Omega.{arith}
use lib.ListN.{get_or}
use Rattle.formula.specs.Words.{table_of}
use Rattle.formula.specs.Tree.{bound_below}
use Rattle.binders.proofs.Tables.{node_within}
use Rattle.binders.proofs.Blocks.{block_at, counted, entry_lt, range_lt, entry_head, entry_put, enter_start, enter_end}
use Rattle.binders.proofs.Walked.{nodes_few, start_at}
use Rattle.binders.proofs.enter.Goals.{Start, In-loop-k}
use Rattle.binders.proofs.enter.Goals as goal

-- a turn's entry is one of the block's
turn : (c : In-loop-k) → c.loop-k.k - 1 < c.node_at-node.result.b
turn c = omega arith

start_of : (c : Start) → get_or c.args.scopes.now.starts.now c.args.i 0 ≡ bound_below (table_of c.args.scopes.now.words.now c.args.scopes.now.list.now) c.args.i
unfolding table_of
start_of c = start_at c.args.scopes.now.held _ c.requires.i_bound.0 c.requires.i_bound.1

pub node_at-node-requires : goal.node_at-node-requires
node_at-node-requires c = node_within _ _ _ c.args.scopes.now.held.accepts c.requires.i_bound.0

pub bounds-scopes-i : goal.bounds-scopes-i
bounds-scopes-i c = omega (arith, c.args.scopes.now.held.starts_length, nodes_few c.args.scopes.now.held)

pub loop-k-init : goal.loop-k-init
loop-k-init c =
    let b = block_at c.args.scopes.now.held.accepts c.requires.i_bound (start_of (goal.at.loop-k-init c).Start) c.node_at-node.ensures in
    (b, enter_start b c.requires.fact)

pub bounds-scopes-first : goal.bounds-scopes-first
bounds-scopes-first c = range_lt c.loop-k.invariant.0 _ (turn (goal.at.bounds-scopes-first c).In-loop-k)

pub overflow_add-start : goal.overflow_add-start
overflow_add-start c = omega (arith, entry_lt c.loop-k.invariant.0 _ (turn (goal.at.overflow_add-start c).In-loop-k))

pub put_entry-requires : goal.put_entry-requires
put_entry-requires c =
    let v = c.loop-k.invariant in
    let e = entry_lt v.0 _ (turn (goal.at.put_entry-requires c).In-loop-k) in
    (entry_head v.0 _ (turn (goal.at.put_entry-requires c).In-loop-k) v.1, omega (arith, v.1.nexts_length), e)

pub loop-k-preserved : goal.loop-k-preserved
loop-k-preserved c =
    let v = c.loop-k.invariant in
    (v.0, rw (c.put_entry.ensures.heads_after, c.put_entry.ensures.entry_nexts_after) (entry_put v.0 _ (turn (goal.at.loop-k-preserved c).In-loop-k) _ (omega arith) v.1))

pub returns : goal.returns
returns c =
    let v = c.loop-k.invariant in record {
      fact_2 = enter_end v.0 _ (omega arith) v.1;
      value = sym (counted v.0);
    }
