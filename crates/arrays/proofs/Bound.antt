-- The entry that binds a number at a node, by the block that binds it.
-- Assumes nothing.
use mathlib.Core.Path.{◌≡◌}
use Prim.Native.Nat.{ℕ, suc, ◌+◌, ◌≤◌, ◌<◌}
use native.Mathlib.Omega.{arith}
use lib.Dec.{ltb}
use borrow.Author.Tests.{ltb-true, ltb-false, lt-ltb, le-ltb}
use Rattle.lists.specs.Choice.{pick_yes, pick_no, Is, is_true, is_false, look}
use Rattle.lists.specs.Members.{place}
use Rattle.lists.proofs.Members.{place_lt}
use Rattle.formula.specs.Node.{Table, bound}
use Rattle.formula.specs.Tree.{Proper, count, bound_below}
use Rattle.prenex_form.specs.Scope.{binder}
use Rattle.prenex_form.specs.Names.{bound_count}
use Rattle.prenex_form.proofs.NameLaws.{binder_covers}
use Rattle.arrays.specs.Held.{bound_entry}
use Rattle.arrays.proofs.Entries.{bound_below_end}

module _ (t : Table) (proper : Proper t) (i x : ℕ) where
  -- a number without a binder is free
  pub entry_free : t.size ≤ binder t i x → bound_entry t i x ≡ 0
  unfolding bound_entry
  entry_free l = pick_no _ _ _ (le-ltb (binder t i x) t.size l)

  pub entry_bound : binder t i x < t.size → bound_entry t i x ≡ suc (bound_below t (binder t i x) + place x (bound (t.node (binder t i x))))
  unfolding bound_entry
  entry_bound l = pick_yes _ _ _ (lt-ltb (binder t i x) t.size l)

  pub entry_within : (e : ℕ) → bound_entry t i x ≡ suc e → e < bound_count t
  unfolding count
  entry_within e q = go (look (ltb (binder t i x) t.size))
    where
      b : ℕ
      b = binder t i x

      go : Is (ltb b t.size) → e < bound_count t
      go (is_false f) = absurd (omega (arith, entry_free (ltb-false b t.size f)))
      go (is_true f) =
          let l : b < t.size = ltb-true b t.size f in
          let k : place x (bound (t.node b)) < count t b = place_lt x (bound (t.node b)) (binder_covers t i x l) in
          omega (arith, entry_bound l, bound_below_end t b l)
