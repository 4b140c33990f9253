-- The verdict is the first refusal that applies.
-- Assumes nothing.
use mathlib.Core.Path.{◌≡◌, refl, sym, ◌∙◌, subst}
use mathlib.Core.Bool.{Bool, false, not}
use mathlib.Core.List.{List}
use Prim.Native.Nat.{ℕ, ◌-◌, ◌<◌, ◌≤◌}
use native.Mathlib.Omega.{arith}
use lib.Dec.{eqb, ltb}
use borrow.Author.Tests.{eqb-true, eqb-false, ltb-true, ltb-false, not-true, not-false}
use Rattle.lists.specs.Choice.{pick_yes, pick_no, Is, is_true, is_false, look}
use Rattle.lists.specs.Search.{lowest}
use Rattle.lists.proofs.Search.{lowest_holds, lowest_before}
use Rattle.formula.specs.Words.{node_count}
use Rattle.refusals.specs.Verdict.{no_users, refusal, not_a_tree, accepted}
use Rattle.refusals.specs.declared.Verdict.{Verdict}
use Rattle.acceptance.specs.Limits.{TableLimits}
use Rattle.acceptance.specs.Verdict.{partial_node, too_large, node_fault, not_named_once, tree_refusal, verdict_within}
use Rattle.acceptance.specs.Order.{Whole, FirstThatApplies, partial, large, fault, not_tree, none, UsersOfEight}

module _ (lim : TableLimits) (ws ls : List ℕ) where
  -- whether a node has one of the faults 3 to 7 and 16
  abbrev faulty : ℕ → Bool
  faulty i = not (eqb (node_fault lim ws ls i) 0)

  abbrev first : ℕ
  first = lowest faulty (node_count ws)

  abbrev lone : ℕ
  lone = lowest (not_named_once ws ls) (node_count ws - 1)

  faultless : (j : ℕ) → faulty j ≡ false → node_fault lim ws ls j ≡ 0
  faultless j h = eqb-true _ _ (not-false _ h)

  is : (v : Verdict) → verdict_within lim ws ls ≡ v → FirstThatApplies lim ws ls v → FirstThatApplies lim ws ls (verdict_within lim ws ls)
  is v e = subst (FirstThatApplies lim ws ls) (sym e)

  module _ (p : partial_node ws ≡ false) (l : too_large lim ws ls ≡ false) where
    abbrev whole : Whole lim ws ls
    whole = record { whole = p; small = l }

    by_tree : ltb first (node_count ws) ≡ false → Is (ltb lone (node_count ws - 1)) → FirstThatApplies lim ws ls (verdict_within lim ws ls)
    unfolding verdict_within
    by_tree f t =
        let all : (i : ℕ) → i < node_count ws → node_fault lim ws ls i ≡ 0 =
        λ i h. let g : node_count ws ≤ first = ltb-false _ _ f in faultless i (lowest_before faulty (node_count ws) i (omega arith)) in
        go all t
      where
        go : ((i : ℕ) → i < node_count ws → node_fault lim ws ls i ≡ 0) → Is (ltb lone (node_count ws - 1)) → FirstThatApplies lim ws ls (verdict_within lim ws ls)
        go all (is_true t) =
            let h : lone < node_count ws - 1 = ltb-true _ _ t in
            is _ (pick_no _ _ _ p ∙ pick_no _ _ _ l ∙ pick_no _ _ _ f ∙ pick_yes _ _ _ t)
            (not_tree whole all lone (omega arith) (lowest_holds (not_named_once ws ls) (node_count ws - 1) h) (λ k g. lowest_before (not_named_once ws ls) (node_count ws - 1) k g))
        go all (is_false t) =
            let h : node_count ws - 1 ≤ lone = ltb-false _ _ t in
            is _ (pick_no _ _ _ p ∙ pick_no _ _ _ l ∙ pick_no _ _ _ f ∙ pick_no _ _ _ t)
            (none whole all (λ k g. lowest_before (not_named_once ws ls) (node_count ws - 1) k (omega arith)))

    by_nodes : Is (ltb first (node_count ws)) → FirstThatApplies lim ws ls (verdict_within lim ws ls)
    unfolding verdict_within
    by_nodes (is_true t) =
        let h : first < node_count ws = ltb-true _ _ t in
        is _ (pick_no _ _ _ p ∙ pick_no _ _ _ l ∙ pick_yes _ _ _ t)
        (fault whole first h (eqb-false _ _ (not-true _ (lowest_holds faulty (node_count ws) h))) (λ j g. faultless j (lowest_before faulty (node_count ws) j g)))
    by_nodes (is_false t) = by_tree t (look (ltb lone (node_count ws - 1)))

  by_size : partial_node ws ≡ false → Is (too_large lim ws ls) → FirstThatApplies lim ws ls (verdict_within lim ws ls)
  unfolding verdict_within
  by_size p (is_true l) = is _ (pick_no _ _ _ p ∙ pick_yes _ _ _ l) (large p l)
  by_size p (is_false l) = by_nodes p l (look (ltb first (node_count ws)))

  by_length : Is (partial_node ws) → FirstThatApplies lim ws ls (verdict_within lim ws ls)
  unfolding verdict_within
  by_length (is_true p) = is _ (pick_yes _ _ _ p) (partial p)
  by_length (is_false p) = by_size p (look (too_large lim ws ls))

  pub verdict_order : FirstThatApplies lim ws ls (verdict_within lim ws ls)
  verdict_order = by_length (look (partial_node ws))

-- The users that a verdict carries, by its case.
users_by : (lim : TableLimits) (ws ls : List ℕ) (v : Verdict) → FirstThatApplies lim ws ls v → (v.number ≡ 8 → ⊥) → v.users ≡ no_users
unfolding refusal accepted tree_refusal not_a_tree
users_by lim ws ls _ (partial p) n = refl
users_by lim ws ls _ (large p l) n = refl
users_by lim ws ls _ (fault w i h f b) n = refl
users_by lim ws ls _ (not_tree w a j h f b) n = absurd (n refl)
users_by lim ws ls _ (none w a b) n = refl

pub users_of_eight : UsersOfEight
users_of_eight lim ws ls = users_by lim ws ls (verdict_within lim ws ls) (verdict_order lim ws ls)
