-- `qdimacs_numbers::number_node` meets its contract: the node is a variable below the root, or has a gate.
-- Assumes nothing.
use native.Mathlib.Omega.{arith}
use Prim.Native.Nat.{◌<◌, ◌≤◌}
use lib.ListN.{length, length-set}
use Rattle.lists.specs.Choice.{and_left}
use Rattle.qdimacs_numbers.proofs.Counts.{count_low}
use Rattle.qdimacs_numbers.proofs.Words.{operands_room, number_low, node_named, node_gated}
use Rattle.qdimacs_numbers.proofs.number_node.Goals as goal

pub numeral_word-requires : goal.numeral_word-requires
numeral_word-requires c =
    let room : c.args.i < length c.args.words.now = omega (arith, c.requires.accepted_within.nodes_limit, c.requires.i_bound) in
    let low = number_low 40960 77823 c.args.nodes.now c.requires.accepted_within c.args.i c.requires.i_bound.0 _ c.node_at-node.ensures
    c.args.words.now room (and_left _ _ c.if-node-i.true) in
    omega (arith, low)

pub returns-then-node-i : goal.returns-then-node-i
returns-then-node-i c =
    let room : c.args.i < length c.args.words.now = omega (arith, c.requires.accepted_within.nodes_limit, c.requires.i_bound) in record {
      by_index = λ first above done. node_named 40960 77823 c.args.nodes.now c.requires.accepted_within c.args.i c.requires.i_bound.0 _
          c.node_at-node.ensures c.args.words.now room first c.args.before done c.if-node-i.true
          _ c.numeral_word.ensures;
      next_bound_2 = (omega arith, omega arith);
    }

pub clause_count-clauses-requires : goal.clause_count-clauses-requires
clause_count-clauses-requires c =
    let room : c.args.i < length c.args.words.now = omega (arith, c.requires.accepted_within.nodes_limit, c.requires.i_bound) in
    simp length-set (operands_room 40960 77823 c.args.nodes.now c.requires.accepted_within c.args.i c.requires.i_bound.0 _
    c.node_at-node.ensures c.args.words.now room)

pub overflow_add-result-2 : goal.overflow_add-result-2
overflow_add-result-2 c =
    let l : c.clause_count-clauses.result ≤ 4 = count_low _ _ _ _ c.clause_count-clauses.ensures in
    omega (arith, c.requires.next_bound, c.requires.i_bound, c.requires.accepted_within.nodes_limit)

pub returns : goal.returns
returns c =
    let l : c.clause_count-clauses.result ≤ 4 = count_low _ _ _ _ c.clause_count-clauses.ensures in
    let room : c.args.i < length c.args.words.now = omega (arith, c.requires.accepted_within.nodes_limit, c.requires.i_bound) in record {
      by_index = λ first above done. node_gated 40960 77823 c.args.nodes.now c.requires.accepted_within c.args.i c.requires.i_bound.0 _
          c.node_at-node.ensures c.args.words.now room first c.args.before done
          c.if-node-i.false above (omega (arith, c.requires.next_bound, c.requires.i_bound, c.requires.accepted_within.nodes_limit))
          _ c.numeral_word-2.ensures c.clause_count-clauses.result c.clause_count-clauses.ensures;
      next_bound_2 = (omega (arith, c.requires.next_bound), omega (arith, c.requires.next_bound));
    }
