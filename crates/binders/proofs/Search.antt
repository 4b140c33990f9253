-- The entry that binds a number is the head of its chain in the scope around a node.
-- Assumes nothing.
use mathlib.Core.Path.{◌≡◌, refl, sym, ◌∙◌, ap, subst}
use mathlib.Core.Bool.{true, ◌&&◌}
use mathlib.Core.List.{List}
use Prim.Native.Nat.{ℕ, zero, suc, ◌+◌, ◌-◌, ◌≤◌, ◌<◌}
use native.Mathlib.Omega.{arith}
use lib.Dec.{ltb}
use lib.ListN.{length, get_or}
use borrow.Author.Tests.{ltb-true, ltb-false, eqb-true, eq-eqb}
use Rattle.lists.specs.Choice.{Is, is_true, is_false, look, clash, and_left, and_right, and_both}
use Rattle.lists.specs.Members.{mem, place}
use Rattle.lists.proofs.Search.{lowest_least}
use Rattle.lists.proofs.Members.{place_lt, get_or-place, place-get_or, mem-get_or}
use Rattle.formula.specs.Node.{variable, Table, is_block, bound}
use Rattle.formula.specs.Words.{node_count, field, node_at, table_of}
use Rattle.formula.specs.Tree.{Tree, Proper, count, bound_below}
use Rattle.refusals.specs.Verdict.{accepted}
use Rattle.acceptance.specs.Verdict.{verdict}
use Rattle.acceptance.proofs.Accepted.{accepted_holds}
use Rattle.prenex_form.specs.Scope.{above, binder}
use Rattle.prenex_form.specs.Names.{bound_count}
use Rattle.prenex_form.proofs.Paths.{binder_above}
use Rattle.prenex_form.proofs.NameLaws.{binder_covers}
use Rattle.arrays.specs.Link.{link}
use Rattle.arrays.specs.Held.{enclosing, entries, bound_entry}
use Rattle.arrays.proofs.Link.{Next, link_some, link_none}
use Rattle.arrays.proofs.Bound.{entry_free, entry_bound, entry_within}
use Rattle.arrays.proofs.Entries.{bound_below_next, bound_below_grows, entries_at}
use Rattle.binders.specs.Scope.{block_of, in_scope, in_chain, Open}
use Rattle.binders.proofs.Tables.{in_table, variable_field, field_le}
use Rattle.binders.proofs.Scope.{EntryOf, block_of_is, block_of_has, entry_of_block, entry_of_within, scope_around}

-- entry e, of block b above node i, has the number x
record Covers (t : Table) (i x e b : ℕ) : Type 0 where
  entry_of : EntryOf t e b
  is_above_lem : above t b i ≡ true
  number : get_or (entries t) e 0 ≡ x

module _ (t : Table) (proper : Proper t) (i x : ℕ) (inside : i < t.size) where
  tree : Tree t
  tree = proper.tree

  entry_covers : binder t i x < t.size → Covers t i x (bound_below t (binder t i x) + place x (bound (t.node (binder t i x)))) (binder t i x)
  unfolding count
  entry_covers l =
      let b : ℕ = binder t i x in
      let m = binder_covers t i x l in
      let k : place x (bound (t.node b)) < count t b = place_lt x (bound (t.node b)) m in
      record {
        entry_of = record { lt = l; from = omega arith; below = omega (arith, bound_below_next t b) };
        is_above_lem = binder_above t tree i x l;
        number = entries_at t b _ l k ∙ get_or-place x _ 0 m;
      }

  -- the entry that binds x does
  binding : (e : ℕ) → bound_entry t i x ≡ suc e → Covers t i x e (binder t i x)
  binding e q = go (look (ltb (binder t i x) t.size))
    where
      go : Is (ltb (binder t i x) t.size) → Covers t i x e (binder t i x)
      go (is_true l) =
          let k = ltb-true (binder t i x) t.size l in
          let same : bound_below t (binder t i x) + place x (bound (t.node (binder t i x))) ≡ e = omega (arith, entry_bound t proper i x k) in
          subst (λ e. Covers t i x e (binder t i x)) same (entry_covers k)
      go (is_false l) = absurd (omega (arith, entry_free t proper i x (ltb-false (binder t i x) t.size l)))

  -- such an entry is in the chain of x
  covers_chained : (e b : ℕ) → Covers t i x e b → in_chain t (enclosing t i) x e ≡ true
  covers_chained e b c =
      let s : above t (block_of t e) i ≡ true = rw (block_of_is t e b c.entry_of) c.is_above_lem in
      and_both (in_scope t (enclosing t i) e) _ (scope_around t tree e (entry_of_within t e b c.entry_of) i inside ∙ s) (eq-eqb _ _ c.number)

  -- the first of them binds x
  covers_binds : (e b : ℕ) → Covers t i x e b → ((f : ℕ) → bound_entry t i x ≡ suc f → e ≤ f) → suc e ≡ bound_entry t i x
  unfolding binder count
  covers_binds e b c first = omega (arith, bound_entry_lem, place_of, place_is)
    where
      o : EntryOf t e b
      o = c.entry_of

      j : ℕ
      j = e - bound_below t b

      place_is : bound_below t b + j ≡ e
      place_is = omega (arith, o.from)

      below : j < count t b
      below = omega (arith, o.from, o.below, bound_below_next t b)

      number : get_or (bound (t.node b)) j 0 ≡ x
      number = sym (entries_at t b j o.lt below) ∙ ap (λ n. get_or (entries t) n 0) place_is ∙ c.number

      covered : mem x (bound (t.node b)) ≡ true
      covered = rw number at (mem-get_or (bound (t.node b)) j 0 below)

      place_of : place x (bound (t.node b)) ≡ j
      place_of = rw number at (place-get_or (bound (t.node b)) j 0 (proper.apart b o.lt) below)

      least : binder t i x ≤ b
      least =
          lowest_least (λ b. is_block (t.node b) && mem x (bound (t.node b)) && above t b i) t.size b o.lt
          (and_both _ _ (and_both _ _ (entry_of_block t e b o) covered) c.is_above_lem)

      bound_lt : binder t i x < t.size
      bound_lt = omega (arith, least, o.lt)

      binder_is : binder t i x ≡ b
      binder_is = go (look (ltb (binder t i x) b))
        where
          go : Is (ltb (binder t i x) b) → binder t i x ≡ b
          go (is_true l) =
              let q = entry_bound t proper i x bound_lt in
              absurd (omega (arith, first _ q, (binding _ q).entry_of.below, bound_below_grows t (suc (binder t i x)) b (ltb-true _ _ l), o.from))
          go (is_false l) = omega (arith, least, ltb-false (binder t i x) b l)

      bound_entry_lem : bound_entry t i x ≡ suc (bound_below t b + place x (bound (t.node b)))
      bound_entry_lem = rw binder_is at (entry_bound t proper i x bound_lt)

  -- and those in the chain do
  chained_covers : (e : ℕ) → e < bound_count t → in_chain t (enclosing t i) x e ≡ true → Covers t i x e (block_of t e)
  chained_covers e h m =
      record {
        entry_of = block_of_has t e h;
        is_above_lem = sym (scope_around t tree e h i inside) ∙ and_left (in_scope t (enclosing t i) e) _ m;
        number = eqb-true _ _ (and_right (in_scope t (enclosing t i) e) _ m);
      }

  -- the first entry in the chain binds x; where there is none, x is free
  first_binds : (n : ℕ) → link (in_chain t (enclosing t i) x) 0 (bound_count t) ≡ n → n ≡ bound_entry t i x
  first_binds zero q = none (bound_entry t i x) refl
    where
      none : (n : ℕ) → bound_entry t i x ≡ n → 0 ≡ n
      none zero z = refl
      none (suc e) z =
          clash (covers_chained e _ (binding e z))
          (link_none (in_chain t (enclosing t i) x) 0 (bound_count t) q e (omega arith) (entry_within t proper i x e z))
  first_binds (suc j) q = covers_binds j _ (chained_covers j r.below r.passes) (λ f z. not_before f z (look (ltb f j)))
    where
      r : Next (in_chain t (enclosing t i) x) 0 (bound_count t) j
      r = link_some (in_chain t (enclosing t i) x) 0 (bound_count t) j q

      not_before : (f : ℕ) → bound_entry t i x ≡ suc f → Is (ltb f j) → j ≤ f
      not_before f z (is_false l) = ltb-false f j l
      not_before f z (is_true l) = clash (covers_chained f _ (binding f z)) (r.between f (omega arith) (ltb-true f j l))

-- Variable node i of an accepted table.
module _ (ws ls heads nexts : List ℕ) (i : ℕ) (v : verdict ws ls ≡ accepted) (h : i < node_count ws) (k : field ws i 0 ≡ 2)
    (o : Open (table_of ws ls) (enclosing (table_of ws ls) i) 0 heads nexts) where
  -- its number has a head
  pub variable_head : field ws i 1 < length heads
  variable_head = omega (arith, field_le ws ls i h k, o.heads_wide)

  -- the head is the entry that binds it
  pub head_binds : (x : ℕ) → node_at ws ls i ≡ variable x → get_or heads (field ws i 1) 0 ≡ bound_entry (table_of ws ls) i x
  head_binds x e =
      let n : field ws i 1 ≡ x = variable_field ws ls i x k e in
      rw n
      (o.head_is x (subst (λ y. y < length heads) n variable_head)
      ∙ first_binds (table_of ws ls) (accepted_holds ws ls v).proper i x (in_table ws ls i h) _ refl)
