-- What `lowest_other_than` says of the counts below the last of an array.
-- Assumes nothing.
use mathlib.Core.Bool.{true, false, not}
use mathlib.Core.List.{List}
use mathlib.Core.Path.{◌≡◌, sym, ◌∙◌, ap}
use Prim.Native.Nat.{ℕ, ◌≤◌, ◌<◌}
use native.Mathlib.Omega.{arith}
use lib.Dec.{eqb}
use lib.ListN.{length, get_or, take}
use Rattle.std.proofs.lemmas.Grind.{common_steps}
use Rattle.lists.specs.Search.{lowest}
use Rattle.lists.proofs.Search.{lowest_is, lowest_none}

module _ (counts : List ℕ) (last : ℕ) (h : last ≤ length counts) where
  other_at : (k : ℕ) → k < last → not (eqb (get_or (take last counts) k 1) 1) ≡ not (eqb (get_or counts k 0) 1)
  other_at k l = grind (arith, common_steps)

  pub other_found : (j : ℕ) → j < length (take last counts) → eqb (get_or (take last counts) j 1) 1 ≡ false
      → ((k : ℕ) → k < j → eqb (get_or (take last counts) k 1) 1 ≡ true) → (j < last) × (j ≡ lowest (λ k. not (eqb (get_or counts k 0) 1)) last)
  other_found j l e below =
      let t : j < last = grind (arith, common_steps) in
      (t, sym (lowest_is _ _ _ t (sym (other_at j t) ∙ ap not e) (λ k m. sym (other_at k (omega arith)) ∙ ap not (below k m))))

  pub other_none : ((k : ℕ) → k < length (take last counts) → eqb (get_or (take last counts) k 1) 1 ≡ true)
      → last ≡ lowest (λ k. not (eqb (get_or counts k 0) 1)) last
  other_none all =
      let e : length (take last counts) ≡ last = grind (arith, common_steps) in
      sym (lowest_none _ _ (λ k m. sym (other_at k m) ∙ ap not (all k (omega arith))))
