-- Removing gives no number above 9.
-- Assumes nothing.
use mathlib.Core.Path.{refl, sym, subst}
use mathlib.Core.Bool.{false}
use mathlib.Core.List.{List}
use Prim.Native.Nat.{ℕ, ◌≤◌}
use native.Mathlib.Omega.{arith}
use lib.Dec.{eqb, ltb}
use lib.ListN.{length}
use borrow.Author.Tests.{eqb-true, eqb-false}
use Rattle.lists.specs.Choice.{pick_no, Is, is_true, is_false, look}
use Rattle.lists.specs.Parts.{overwrite}
use Rattle.lists.proofs.Parts.{pick_within}
use Rattle.formula.specs.Words.{node_count}
use Rattle.refusals.specs.Verdict.{refusal, not_a_tree, accepted}
use Rattle.refusals.specs.Outcome.{Outcome, refused, done, unless_short}
use Rattle.refusals.specs.declared.Verdict.{Verdict}
use Rattle.refusals.proofs.Outcome.{call_refused, call_room, call_short}
use Rattle.acceptance.specs.Limits.{stored_limits}
use Rattle.acceptance.specs.Verdict.{empty_block, node_fault, tree_refusal, stored_verdict}
use Rattle.acceptance.specs.Order.{FirstThatApplies, partial, large, fault, not_tree, none}
use Rattle.acceptance.proofs.Order.{verdict_order}
use Rattle.empty_blocks.specs.Removal.{without_empty_blocks}
use Rattle.remove_empty_blocks.specs.Outcome.{storing, removed, UpToNine}
use Rattle.remove_empty_blocks.proofs.Outcome.{removed_accepted}

-- a node of a stored table has no fault above 7: 16 does not apply
fault_within : (ws ls : List ℕ) (i : ℕ) → node_fault stored_limits ws ls i ≤ 7
unfolding node_fault empty_block
fault_within ws ls i =
    pick_within _ 3 _ 7 (omega arith)
    (pick_within _ 4 _ 7 (omega arith)
    (pick_within _ 5 _ 7 (omega arith)
    (rw (pick_no {A = ℕ} false 16 _ refl)
    (pick_within _ 6 _ 7 (omega arith)
    (pick_within _ 7 _ 7 (omega arith) (omega arith))))))

verdict_within : (ws ls : List ℕ) (v : Verdict) → FirstThatApplies stored_limits ws ls v → v.number ≤ 8
unfolding refusal accepted tree_refusal not_a_tree
verdict_within ws ls _ (partial p) = omega arith
verdict_within ws ls _ (large p l) = omega arith
verdict_within ws ls _ (fault w i h f before) = omega (arith, fault_within ws ls i)
verdict_within ws ls _ (not_tree w clear j h o before) = omega arith
verdict_within ws ls _ (none w clear once) = omega arith

abbrev Within : Outcome ℕ (List ℕ) → Type 0
Within o = o.answer.verdict.number ≤ 9

storing_within : (nodes left : List ℕ) → Is (ltb (length nodes) (length left)) → Within (storing nodes left)
unfolding storing refused done refusal accepted
storing_within nodes left short =
    let written : Outcome ℕ (List ℕ) = record { answer = done (node_count left); buffers = overwrite nodes 0 left } in
    go written (omega arith) short
  where
    go : (next : Outcome ℕ (List ℕ)) → Within next → (b : Is (ltb (length nodes) (length left)))
        → Within (unless_short (ltb (length nodes) (length left)) 0 nodes next)
    go next h (is_true t) = subst Within (sym (call_short 0 nodes next _ t)) (omega arith)
    go next h (is_false t) = subst Within (sym (call_room 0 nodes next _ t)) h

removed_within : (ws ls nodes : List ℕ) → Is (eqb (stored_verdict ws ls).number 0) → Within (removed ws ls nodes)
unfolding removed refused
removed_within ws ls nodes (is_true t) =
    let left = without_empty_blocks ws in
    subst Within (removed_accepted ws ls nodes (eqb-true _ _ t)) (storing_within nodes left (look (ltb (length nodes) (length left))))
removed_within ws ls nodes (is_false t) =
    let v : (stored_verdict ws ls).number ≤ 8 = verdict_within ws ls _ (verdict_order stored_limits ws ls) in
    subst Within (sym (call_refused 0 nodes (storing nodes (without_empty_blocks ws)) (stored_verdict ws ls) (eqb-false _ _ t))) (omega arith)

pub up_to_nine : UpToNine
up_to_nine ws ls nodes = removed_within ws ls nodes (look (eqb (stored_verdict ws ls).number 0))
