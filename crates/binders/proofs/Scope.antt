-- Which block an entry is of, and which entries are in a block's scope.
-- Assumes nothing.
use mathlib.Core.Path.{◌≡◌, refl, sym, ◌∙◌, ap, subst}
use mathlib.Core.Bool.{Bool, true, false, ◌&&◌, ◌||◌, and-not_self}
use mathlib.Core.List.{List, [], ◌∷◌}
use mathlib.Core.Logic.{◌⊎◌, inl, inr}
use Prim.Native.Nat.{ℕ, zero, suc, ◌-◌, ◌≤◌, ◌<◌}
use native.Mathlib.Omega.{arith}
use lib.Dec.{eqb, leb, ltb}
use borrow.Author.Tests.{ltb-true, ltb-false, lt-ltb, le-ltb, leb-true, leb-false, le-leb, eqb-true, eq-eqb, ne_eqb}
use Rattle.lists.specs.Choice.{pick_no, Is, is_true, is_false, look, clash, or_left, or_right, or_neither, or_cases, absent, same_test}
use Rattle.lists.specs.Parts.{sum}
use Rattle.lists.specs.Members.{mem}
use Rattle.lists.proofs.Search.{lowest_holds, lowest_before, lowest_least, lowest_is, lowest_none}
use Rattle.lists.proofs.Members.{mem_one}
use Rattle.formula.specs.Node.{Table, operands, is_block}
use Rattle.formula.specs.Tree.{Tree, count, bound_below}
use Rattle.prenex_form.specs.Scope.{parent, path_up, path, above}
use Rattle.prenex_form.specs.Names.{bound_count}
use Rattle.prenex_form.proofs.Paths.{above_higher, above_trans}
use Rattle.prenex_form.proofs.NameLaws.{binds_block}
use Rattle.arrays.specs.Held.{enclosing}
use Rattle.arrays.proofs.Enclosing.{enclosing_le, enclosing_above, enclosing_next}
use Rattle.arrays.proofs.Entries.{bound_below_next, bound_below_grows}
use Rattle.binders.specs.Scope.{block_of, in_scope}

-- Entry e is one of block b's.
pub record EntryOf (t : Table) (e b : ℕ) : Type 0 where
  pub lt : b < t.size
  pub from : bound_below t b ≤ e
  pub below : e < bound_below t (suc b)

module _ (t : Table) (e : ℕ) where
  -- the test that finds its block
  abbrev counted : ℕ → Bool
  counted i = ltb e (bound_below t (suc i))

  pub block_of_is : (b : ℕ) → EntryOf t e b → block_of t e ≡ b
  unfolding block_of
  block_of_is b o =
      lowest_is counted t.size b o.lt (lt-ltb e _ o.below)
      (λ j k. le-ltb e (bound_below t (suc j)) (omega (arith, bound_below_grows t (suc j) b k, o.from)))

  pub entry_of_block : (b : ℕ) → EntryOf t e b → is_block (t.node b) ≡ true
  unfolding count
  entry_of_block b o = binds_block (t.node b) (omega (arith, bound_below_next t b, o.from, o.below))

  pub entry_of_within : (b : ℕ) → EntryOf t e b → e < bound_count t
  unfolding bound_count
  entry_of_within b o = omega (arith, o.below, bound_below_grows t (suc b) t.size o.lt)

  some_node_lem : e < bound_count t → 0 < t.size
  unfolding bound_count bound_below sum
  some_node_lem h = go t.size h
    where
      go : (n : ℕ) → e < sum (count t) n → 0 < n
      go zero l = absurd (omega arith)
      go (suc n) l = omega arith

  block_of-lt : e < bound_count t → block_of t e < t.size
  unfolding block_of bound_count
  block_of-lt h =
      let s : suc (t.size - 1) ≡ t.size = omega (arith, some_node_lem h) in
      let l : e < bound_below t (suc (t.size - 1)) = rw s h in
      let m = lowest_least counted t.size (t.size - 1) (omega arith) (lt-ltb e _ l) in
      omega arith

  from_cases : (o : ℕ) → block_of t e ≡ o → bound_below t o ≤ e
  unfolding block_of bound_below sum
  from_cases zero q = omega arith
  from_cases (suc o) q = ltb-false e _ (lowest_before counted t.size o (omega arith))

  -- every entry is one of a block
  pub block_of_has : e < bound_count t → EntryOf t e (block_of t e)
  unfolding block_of
  block_of_has h =
      record {
        lt = block_of-lt h;
        from = from_cases (block_of t e) refl;
        below = ltb-true e _ (lowest_holds counted t.size (block_of-lt h));
      }

module _ (t : Table) (tree : Tree t) where
  -- nothing is above the scope outside all blocks
  no_parent : parent t t.size ≡ t.size
  unfolding parent
  no_parent =
      lowest_none (λ j. mem t.size (operands (t.node j))) t.size
      (λ j l. absent _ (λ m. omega (arith, tree.lower j t.size l m)))

  path_outside : (f : ℕ) → path_up (suc f) t t.size ≡ t.size ∷ []
  unfolding path_up
  path_outside f = ap (λ (l : List ℕ). t.size ∷ l) (pick_no _ _ _ (le-ltb (parent t t.size) t.size (omega (arith, no_parent))))

  pub above_outside : (b : ℕ) → above t b t.size ≡ false
  unfolding above path
  above_outside b =
      let s : t.size ≡ suc (t.size - 1) = omega (arith, tree.nonempty) in
      let p : path_up t.size t t.size ≡ t.size ∷ [] = ap (λ f. path_up f t t.size) s ∙ path_outside (t.size - 1) in
      rw (p, mem_one b t.size) (and-not_self (eqb b t.size))

  module _ (e : ℕ) (h : e < bound_count t) where
    -- the entries in the scope right around node i are those of the blocks above it
    pub scope_around : (i : ℕ) → i < t.size → in_scope t (enclosing t i) e ≡ above t (block_of t e) i
    unfolding in_scope
    scope_around i l = same_test _ _ down up
      where
        o : ℕ
        o = block_of t e

        c : ℕ
        c = enclosing t i

        entry_of : EntryOf t e (block_of t e)
        entry_of = block_of_has t e h

        higher : above t o c ≡ true → Is (ltb c t.size) → above t o i ≡ true
        higher a (is_true k) = above_trans t tree o c i l a (enclosing_above t tree i (ltb-true _ _ k))
        higher a (is_false k) =
            let q : c ≡ t.size = omega (arith, ltb-false c t.size k, enclosing_le t tree i) in
            clash (subst (λ b. above t o b ≡ true) q a) (above_outside o)

        down : (eqb o c || above t o c) ≡ true → above t o i ≡ true
        down m =
            or_cases (eqb o c) (above t o c) m
            (λ q. let s = eqb-true o c q in
            subst (λ b. above t b i ≡ true) (sym s) (enclosing_above t tree i (omega (arith, entry_of.lt))))
            (λ a. higher a (look _))

        up : above t o i ≡ true → (eqb o c || above t o c) ≡ true
        up a = go (enclosing_next t tree o i l entry_of.lt (entry_of_block t e o entry_of) a)
          where
            go : (o ≡ c) ⊎ (above t o c ≡ true) → (eqb o c || above t o c) ≡ true
            go (inl q) = or_left (eqb o c) (above t o c) (eq-eqb o c q)
            go (inr u) = or_right (eqb o c) (above t o c) u

    -- outside all blocks none is in scope
    pub scope_outside : in_scope t t.size e ≡ false
    unfolding in_scope
    scope_outside =
        let o = (block_of_has t e h).lt in
        or_neither (eqb (block_of t e) t.size) (above t (block_of t e) t.size) (ne_eqb (block_of t e) t.size (λ q. omega arith)) (above_outside (block_of t e))

    -- a block's own entries are in its scope
    pub scope_own : (i : ℕ) → EntryOf t e i → in_scope t i e ≡ true
    unfolding in_scope
    scope_own i o = or_left (eqb (block_of t e) i) (above t (block_of t e) i) (eq-eqb _ _ (block_of_is t e i o))

    block_of_before : (i : ℕ) → e < bound_below t i → block_of t e < i
    block_of_before i l = go (look (ltb (block_of t e) i))
      where
        go : Is (ltb (block_of t e) i) → block_of t e < i
        go (is_true k) = ltb-true _ _ k
        go (is_false k) =
            absurd (omega (arith, bound_below_grows t i (block_of t e) (ltb-false _ _ k), (block_of_has t e h).from))

    not_above : (i : ℕ) → i < t.size → block_of t e ≤ i → above t (block_of t e) i ≡ false
    not_above i l k = absent _ (λ a. omega (arith, above_higher t tree (block_of t e) i l a))

    -- those before them are not
    pub scope_before : (i : ℕ) → i < t.size → e < bound_below t i → in_scope t i e ≡ false
    unfolding in_scope
    scope_before i l k =
        let o = block_of_before i k in
        or_neither (eqb (block_of t e) i) (above t (block_of t e) i) (ne_eqb (block_of t e) i (λ q. omega arith)) (not_above i l (omega arith))

    -- nor are they and the block's own in the scope around it
    pub around_before : (i : ℕ) → i < t.size → e < bound_below t (suc i) → in_scope t (enclosing t i) e ≡ false
    around_before i l k = let o = block_of_before (suc i) k in scope_around i l ∙ not_above i l (omega arith)

    -- and those after them are in both or neither
    pub around_after : (i : ℕ) → i < t.size → bound_below t (suc i) ≤ e → in_scope t i e ≡ in_scope t (enclosing t i) e
    unfolding in_scope
    around_after i l k =
        let n : eqb (block_of t e) i ≡ false = ne_eqb _ _ (λ q. let d = subst (λ b. e < bound_below t (suc b)) q (block_of_has t e h).below in omega arith) in
        ap (λ b. b || above t (block_of t e) i) n ∙ sym (scope_around i l)

    -- whatever is in scope from where block i's entries begin is in scope at all
    pub scope_start : (i : ℕ) → i < t.size → (leb (bound_below t i) e && in_scope t i e) ≡ (leb 0 e && in_scope t i e)
    scope_start i l = go (look (leb (bound_below t i) e))
      where
        z : leb 0 e ≡ true
        z = le-leb 0 e (omega arith)

        go : Is (leb (bound_below t i) e) → (leb (bound_below t i) e && in_scope t i e) ≡ (leb 0 e && in_scope t i e)
        go (is_true b) = rw (b, z)
        go (is_false b) = rw (b, z) (sym (scope_before i l (leb-false _ _ b)))

    -- and whatever is in scope after block i's entries is in scope around it
    pub scope_end : (i : ℕ) → i < t.size → (leb 0 e && in_scope t (enclosing t i) e) ≡ (leb (bound_below t (suc i)) e && in_scope t i e)
    scope_end i l = go (look (leb (bound_below t (suc i)) e))
      where
        z : leb 0 e ≡ true
        z = le-leb 0 e (omega arith)

        go : Is (leb (bound_below t (suc i)) e) → (leb 0 e && in_scope t (enclosing t i) e) ≡ (leb (bound_below t (suc i)) e && in_scope t i e)
        go (is_true b) = rw (b, z) (sym (around_after i l (leb-true _ _ b)))
        go (is_false b) = rw (b, z) (around_before i l (leb-false _ _ b))
