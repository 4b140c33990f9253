-- `binders::leave` meets its contract. The loop's invariant: the scope's entries from the block's kth on are chained.
-- Assumes nothing.
use mathlib.Core.Path.{◌≡◌, sym}
use Prim.Native.Nat.{◌+◌, ◌<◌}
use native.Mathlib.Omega.{arith}
use lib.ListN.{get_or, length}
use Rattle.acceptance.specs.Limits.{limit}
use Rattle.formula.specs.Words.{table_of}
use Rattle.formula.specs.Tree.{bound_below}
use Rattle.binders.proofs.Tables.{node_within}
use Rattle.binders.proofs.Blocks.{block_at, counted, entry_lt, range_lt, entry_head, entry_taken, leave_start, leave_end}
use Rattle.binders.proofs.Walked.{nodes_few, start_at}
use Rattle.binders.proofs.leave.Goals.{Start, In-loop-k}
use Rattle.binders.proofs.leave.Goals as goal

-- a turn's entry is one of the block's
turn : (c : In-loop-k) → c.loop-k.k < c.node_at-node.result.b
turn c = omega arith

in_list : (c : In-loop-k) → c.node_at-node.result.a + c.loop-k.k < length c.args.scopes.now.list.now
in_list c = range_lt c.loop-k.invariant.0 _ (turn c)

few : (c : In-loop-k) → get_or c.args.scopes.now.starts.now c.args.i 0 + c.loop-k.k < limit
few c = entry_lt c.loop-k.invariant.0 _ (turn c)

start_of : (c : Start) → get_or c.args.scopes.now.starts.now c.args.i 0 ≡ bound_below (table_of c.args.scopes.now.words.now c.args.scopes.now.list.now) c.args.i
unfolding table_of
start_of c = start_at c.args.scopes.now.held _ c.requires.i_bound.0 c.requires.i_bound.1

pub node_at-node-requires : goal.node_at-node-requires
node_at-node-requires c = node_within _ _ _ c.args.scopes.now.held.accepts c.requires.i_bound.0

pub bounds-scopes-i : goal.bounds-scopes-i
bounds-scopes-i c = omega (arith, c.args.scopes.now.held.starts_length, nodes_few c.args.scopes.now.held)

pub loop-k-init : goal.loop-k-init
loop-k-init c =
    let b = block_at c.args.scopes.now.held.accepts c.requires.i_bound (start_of (goal.at.loop-k-init c).Start) c.node_at-node.ensures in
    (b, leave_start b c.requires.fact)

pub overflow_add-heads : goal.overflow_add-heads
overflow_add-heads c = omega (arith, few (goal.at.overflow_add-heads c).In-loop-k)

pub overflow_add-heads-in-loop-k : goal.overflow_add-heads-in-loop-k
overflow_add-heads-in-loop-k c = omega (arith, few (goal.at.overflow_add-heads-in-loop-k c).In-loop-k)

pub offset_bounds-entry_nexts-start : goal.offset_bounds-entry_nexts-start
offset_bounds-entry_nexts-start c = omega (arith, few (goal.at.offset_bounds-entry_nexts-start c).In-loop-k)

pub bounds-entry_nexts-start : goal.bounds-entry_nexts-start
bounds-entry_nexts-start c = omega (arith, few (goal.at.bounds-entry_nexts-start c).In-loop-k, c.loop-k.invariant.1.nexts_length)

pub overflow_add-heads-in-loop-k-2 : goal.overflow_add-heads-in-loop-k-2
overflow_add-heads-in-loop-k-2 c = omega (arith, in_list (goal.at.overflow_add-heads-in-loop-k-2 c).In-loop-k)

pub offset_bounds-scopes-first : goal.offset_bounds-scopes-first
offset_bounds-scopes-first c = omega (arith, in_list (goal.at.offset_bounds-scopes-first c).In-loop-k)

pub bounds-scopes-first : goal.bounds-scopes-first
bounds-scopes-first c = in_list (goal.at.bounds-scopes-first c).In-loop-k

pub bounds-heads-scopes : goal.bounds-heads-scopes
bounds-heads-scopes c = entry_head c.loop-k.invariant.0 _ (turn (goal.at.bounds-heads-scopes c).In-loop-k) c.loop-k.invariant.1

pub loop-k-preserved : goal.loop-k-preserved
loop-k-preserved c =
    let v = c.loop-k.invariant in
    (v.0, entry_taken v.0 _ (turn (goal.at.loop-k-preserved c).In-loop-k) _ (omega arith) v.1)

pub returns : goal.returns
returns c =
    let v = c.loop-k.invariant in
    let e : c.loop-k.k ≡ c.node_at-node.result.b = omega arith in record {
      fact_2 = leave_end v.0 _ e v.1;
      value = sym (counted v.0);
    }
