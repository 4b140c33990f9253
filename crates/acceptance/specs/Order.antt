-- The order of the refusals by its property: what holds of a verdict is that its refusal applies, at the lowest node, and that none
-- before it does. That `verdict_within` is this verdict is the law `verdict_order`; it and `users_of_eight` are proved in
-- proofs/Order.antt.
-- Assumes nothing.
use Rattle.std.specs.Prelude.{true, false, List, ◌≡◌, ℕ, suc, ◌<◌}
use Rattle.formula.specs.Words.{node_count}
use Rattle.refusals.specs.Verdict.{no_users, refusal, accepted}
use Rattle.refusals.specs.declared.Verdict.{Verdict}
use Rattle.acceptance.specs.Limits.{TableLimits}
use Rattle.acceptance.specs.Verdict.{partial_node, too_large, node_fault, not_named_once, tree_refusal, verdict_within}

-- Neither refusal 1 nor 2 applies.
pub record Whole (lim : TableLimits) (ws ls : List ℕ) : Type 0 where
  pub whole : partial_node ws ≡ false
  pub small : too_large lim ws ls ≡ false

-- "Order: 1, 2; then nodes upward, each tested for 3 to 7 in that order; then 8. .. The first that applies is the answer." Refusal 16
-- is one of a node's faults, between 5 and 6 (node_fault).
pub data FirstThatApplies (lim : TableLimits) (ws ls : List ℕ) : Verdict → Type 0 where
  partial : partial_node ws ≡ true → FirstThatApplies lim ws ls (refusal 1 0)
  large : partial_node ws ≡ false → too_large lim ws ls ≡ true → FirstThatApplies lim ws ls (refusal 2 0)
  fault : Whole lim ws ls → (i : ℕ) → i < node_count ws → (node_fault lim ws ls i ≡ 0 → ⊥) → ((j : ℕ) → j < i → node_fault lim ws ls j ≡ 0)
      → FirstThatApplies lim ws ls (refusal (node_fault lim ws ls i) i)
  not_tree : Whole lim ws ls → ((i : ℕ) → i < node_count ws → node_fault lim ws ls i ≡ 0)
      → (j : ℕ) → suc j < node_count ws → not_named_once ws ls j ≡ true → ((k : ℕ) → k < j → not_named_once ws ls k ≡ false)
      → FirstThatApplies lim ws ls (tree_refusal ws ls j)
  none : Whole lim ws ls → ((i : ℕ) → i < node_count ws → node_fault lim ws ls i ≡ 0)
      → ((k : ℕ) → suc k < node_count ws → not_named_once ws ls k ≡ false) → FirstThatApplies lim ws ls accepted

-- Request S-2, of the two users: "0 for every other number" than 8 (users_of_eight).
abbrev pub UsersOfEight : Type 0
UsersOfEight =
    (lim : TableLimits) (ws ls : List ℕ) → ((verdict_within lim ws ls).number ≡ 8 → ⊥) → (verdict_within lim ws ls).users ≡ no_users
