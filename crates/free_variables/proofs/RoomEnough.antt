-- Room for 2,048 names is always enough: a table of at most 4,096 nodes has at most 2,048 leaves.
-- Assumes nothing.
use mathlib.Core.Path.{◌≡◌, refl, sym, ◌∙◌, ap}
use mathlib.Core.List.{List}
use Prim.Native.Nat.{ℕ, ◌≤◌}
use native.Mathlib.Omega.{arith}
use lib.Dec.{eqb}
use lib.ListN.{length}
use borrow.Author.Tests.{eqb-true, eqb-false}
use Rattle.lists.specs.Choice.{Is, is_true, is_false, look}
use Rattle.lists.specs.Parts.{overwrite}
use Rattle.formula.specs.Words.{table_of}
use Rattle.formula.specs.FreeVariables.{free_variables}
use Rattle.formula.proofs.FreeVariables.{free_few}
use Rattle.refusals.specs.Verdict.{accepted}
use Rattle.refusals.specs.Outcome.{Outcome}
use Rattle.acceptance.specs.Verdict.{verdict}
use Rattle.acceptance.proofs.Accepted.{number_zero, accepted_holds}
use Rattle.free_variables.specs.Outcome.{after, listed, RoomEnough}
use Rattle.free_variables.proofs.Listing.{listing_done, listed_refused, listed_accepted}

-- an accepted table has at most 2,048 free variables
pub free_limit : (ws ls : List ℕ) → verdict ws ls ≡ accepted → length (free_variables (table_of ws ls)) ≤ 2048
unfolding table_of
free_limit ws ls ok =
    let a = accepted_holds ws ls ok in
    omega (arith, free_few (table_of ws ls) a.proper.tree, a.nodes_limit)

pub room_enough : RoomEnough
unfolding after
room_enough ws ls names room = go (look (eqb (verdict ws ls).number 0))
  where
    go : Is (eqb (verdict ws ls).number 0) → (listed ws ls names).answer.verdict ≡ verdict ws ls
    go (is_true e) =
        let z : (verdict ws ls).number ≡ 0 = eqb-true _ _ e in
        let ok : verdict ws ls ≡ accepted = number_zero ws ls z in
        let xs : List ℕ = free_variables (table_of ws ls) in
        let fits : length xs ≤ length names = omega (arith, free_limit ws ls ok) in
        ap (λ (o : Outcome ℕ (List ℕ)). o.answer.verdict) (sym (listing_done accepted names xs refl fits (length xs) refl (overwrite names 0 xs) refl ∙ listed_accepted ws ls names z))
        ∙ sym ok
    go (is_false e) =
        ap (λ (o : Outcome ℕ (List ℕ)). o.answer.verdict) (sym (listed_refused ws ls names (verdict ws ls) refl (eqb-false _ _ e)))
