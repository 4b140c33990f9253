-- `matrix_check::check` meets its contract: each return is one of the answers of `verdict_within`, and what the scan of the counts requires follows from the pass over the nodes.
-- Assumes nothing.
use mathlib.Core.Bool.{false, ◌||◌}
use mathlib.Core.Path.{◌≡◌}
use Prim.Native.Nat.{◌-◌, ◌≤◌}
use native.Mathlib.Omega.{arith}
use lib.Dec.{ltb}
use lib.ListN.{length}
use Rattle.formula.specs.Words.{node_count}
use Rattle.acceptance.specs.Verdict.{partial_node}
use Rattle.tree_check.proofs.Counts.{other_found, other_none}
use Rattle.matrix_check.proofs.Nodes.{tallied_new, matrix_length, some_node_lem, few_nodes, matrix_node, matrix_tree, matrix_passed}
use Rattle.matrix_check.proofs.check.Goals.{Else-partial_node-n}
use Rattle.matrix_check.proofs.check.Goals as goal

pub returns-then-partial_node-n : goal.returns-then-partial_node-n
returns-then-partial_node-n c = matrix_length _ (rw c.partial_node.ensures at c.if-partial_node-n.true)

-- the length is not at fault
long : (c : Else-partial_node-n) → (partial_node c.args.nodes.now || ltb 40960 (node_count c.args.nodes.now)) ≡ false
long c = rw c.partial_node.ensures at c.if-partial_node-n.false

pub first_unsound-requires : goal.first_unsound-requires
first_unsound-requires c =
    record {
      nodes_bound = few_nodes _ (long (goal.at.first_unsound-requires c).Else-partial_node-n);
      tallied = tallied_new _;
    }

pub returns-in-Some : goal.returns-in-Some
returns-in-Some c = matrix_node _ (long (goal.at.returns-in-Some c).Else-partial_node-n) _ c.in-Some.ensures.1 c.in-Some.ensures.0

pub slice_bounds-named-count : goal.slice_bounds-named-count
slice_bounds-named-count c = omega (arith, some_node_lem _ (long (goal.at.slice_bounds-named-count c).Else-partial_node-n))

pub returns-in-Some-lowest_other_than : goal.returns-in-Some-lowest_other_than
returns-in-Some-lowest_other_than c =
    let long = long (goal.at.returns-in-Some-lowest_other_than c).Else-partial_node-n in
    let passed = c.in_default.ensures in
    let j = c.in-Some-lowest_other_than.ensures in
    let wide : node_count c.args.nodes.now - 1 ≤ length c.first_unsound.new.named = omega (arith, few_nodes _ long, passed.1.wide) in
    let found = other_found c.first_unsound.new.named _ wide _ j.0 j.1 j.2 in
    matrix_tree _ long passed.0 _ passed.1 _ found.1 found.0

pub returns-in-None : goal.returns-in-None
returns-in-None c =
    let long = long (goal.at.returns-in-None c).Else-partial_node-n in
    let passed = c.in_default.ensures in
    let wide : node_count c.args.nodes.now - 1 ≤ length c.first_unsound.new.named = omega (arith, few_nodes _ long, passed.1.wide) in
    matrix_passed _ long passed.0 _ passed.1 _ (other_none c.first_unsound.new.named _ wide c.in-None.ensures) (omega arith)
