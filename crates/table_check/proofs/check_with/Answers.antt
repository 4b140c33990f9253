-- `table_check::check_with` meets its contract: each return is one of the answers of `verdict_within`, and what the scan of the counts
-- requires follows from the pass over the nodes.
-- Assumes nothing.
use mathlib.Core.Bool.{false}
use mathlib.Core.Path.{◌≡◌, sym, ◌∙◌}
use native.Mathlib.Omega.{arith}
use Rattle.acceptance.specs.Limits.{tables_with}
use Rattle.acceptance.specs.Verdict.{partial_node, too_large}
use Rattle.table_check.proofs.Faults.{some_node_lem, few_nodes, verdict_partial, verdict_large, verdict_nodes, verdict_tree}
use Rattle.tree_check.proofs.Named.{counted_new}
use Rattle.table_check.proofs.check_with.Goals.{Else-partial_node, Else-words-list}
use Rattle.table_check.proofs.check_with.Goals as goal

pub returns-then-partial_node : goal.returns-then-partial_node
returns-then-partial_node c = c.refusal.ensures ∙ sym (verdict_partial _ _ _ (sym c.partial_node.ensures ∙ c.if-partial_node.true))

-- Refusal 1 does not apply, ..
whole : (c : Else-partial_node) → partial_node c.args.words.now ≡ false
whole c = sym c.partial_node.ensures ∙ c.if-partial_node.false

pub returns-then-words-list : goal.returns-then-words-list
unfolding too_large
returns-then-words-list c = c.refusal-then-words-list.ensures ∙ sym (verdict_large _ _ _ (whole (goal.at.returns-then-words-list c).Else-partial_node) c.if-words-list.true)

-- .. nor does refusal 2.
within : (c : Else-words-list)
    → let a = c.args in too_large (tables_with a.empty) a.words.now a.list.now ≡ false
unfolding too_large
within c = c.if-words-list.false

pub check_nodes-nodes-requires : goal.check_nodes-nodes-requires
check_nodes-nodes-requires c =
    record {
      words_bound = few_nodes _ _ _ (within (goal.at.check_nodes-nodes-requires c).Else-words-list);
      counted = counted_new _;
    }

pub returns-then-nodes-ne-ACCEPTED : goal.returns-then-nodes-ne-ACCEPTED
returns-then-nodes-ne-ACCEPTED c =
    let n = c.check_nodes-nodes.ensures.value in
    let refused : c.check_nodes-nodes.result.number ≡ 0 → ⊥ = λ z. omega arith in
    n ∙ sym (verdict_nodes _ _ _ (whole (goal.at.returns-then-nodes-ne-ACCEPTED c).Else-partial_node) (within (goal.at.returns-then-nodes-ne-ACCEPTED c).Else-words-list) (rw n at refused))

pub check_tree-requires : goal.check_tree-requires
check_tree-requires c =
    let counted = c.check_nodes-nodes.ensures.counted_2 in record {
      words_nonzero = (some_node_lem _ (whole (goal.at.check_tree-requires c).Else-partial_node), few_nodes _ _ _ (within (goal.at.check_tree-requires c).Else-words-list));
      counted = counted (omega arith);
    }

pub returns : goal.returns
returns c =
    let accepted : c.check_nodes-nodes.result.number ≡ 0 = omega arith in
    let sound = rw c.check_nodes-nodes.ensures.value at accepted in
    c.check_tree.ensures ∙ sym (verdict_tree _ _ _ (whole (goal.at.returns c).Else-partial_node) (within (goal.at.returns c).Else-words-list) sound)
