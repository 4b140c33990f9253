-- The pass that fills parent blocks and levels, step by step.
-- Assumes nothing.
use mathlib.Core.Path.{◌≡◌, sym, ◌∙◌, ap, subst}
use mathlib.Core.Bool.{true, false}
use mathlib.Core.List.{List, [], ◌∷◌}
use Prim.Native.Nat.{ℕ, suc, ◌+◌, ◌-◌, ◌<◌, ◌≤◌}
use native.Mathlib.Numerals.{add-one}
use native.Mathlib.Omega.{arith}
use lib.Dec.{eqb}
use lib.ListN.{length, get_or, set}
use lib.Seq.{get_or-set_same}
use borrow.Author.Tests.{eqb-true, eqb-false, ne_eqb}
use Rattle.lists.specs.Choice.{pick, pick_yes, pick_no, Is, is_true, is_false, look, absent}
use Rattle.lists.specs.Members.{mem}
use Rattle.lists.proofs.Stores.{get_d_set}
use Rattle.lists.proofs.Search.{lowest_holds}
use Rattle.formula.specs.Node.{Table, operands, is_block}
use Rattle.formula.specs.Words.{node_count, node_at, table_of}
use Rattle.formula.specs.Tree.{Tree}
use Rattle.refusals.specs.Verdict.{accepted}
use Rattle.acceptance.specs.Limits.{limit}
use Rattle.acceptance.specs.Verdict.{verdict}
use Rattle.prenex_form.specs.Scope.{parent, inner, level}
use Rattle.prenex_form.proofs.Paths.{inner_is, not_inner, inner_root, parent_is, parent_lt, parent_higher, root_parent, level_root, level_step}
use Rattle.arrays.specs.Held.{enclosing, Parents, NodeLevels}
use Rattle.arrays.proofs.Nodes.{accepted_tree, nodes_few, level_small}
use Rattle.arrays.proofs.Enclosing.{enclosing_root, enclosing_step}
use Rattle.scopes.specs.Passes.{Stored, ScopesFrom}
use Rattle.scopes.proofs.Nodes.{nodes_some}

-- the same list, at an index that holds the value already
same_stored : (l : List ℕ) (i v : ℕ) → get_or l i 0 ≡ v → (x : ℕ) → get_or l x 0 ≡ pick (eqb x i) v (get_or l x 0)
same_stored l i v h x = go (look (eqb x i))
  where
    go : Is (eqb x i) → get_or l x 0 ≡ pick (eqb x i) v (get_or l x 0)
    go (is_true e) = ap (λ y. get_or l y 0) (eqb-true x i e) ∙ h ∙ sym (pick_yes _ _ _ e)
    go (is_false e) = sym (pick_no _ _ _ e)

module _ (t : Table) (tree : Tree t) where
  -- a node is below its parent, and the root below the table's size
  parent_above : (i : ℕ) → i < t.size → i < parent t i
  parent_above i h = go (look (eqb (suc i) t.size))
    where
      go : Is (eqb (suc i) t.size) → i < parent t i
      go (is_true e) = omega (arith, root_parent t tree i (eqb-true _ _ e))
      go (is_false e) =
          let n = eqb-false (suc i) t.size e in parent_higher t tree i (omega arith)

  only_root : (i : ℕ) → i < t.size → t.size ≤ parent t i → suc i ≡ t.size
  only_root i h k = go (look (eqb (suc i) t.size))
    where
      go : Is (eqb (suc i) t.size) → suc i ≡ t.size
      go (is_true e) = eqb-true _ _ e
      go (is_false e) =
          let n = eqb-false (suc i) t.size e in
          let l : suc i < t.size = omega arith in
          absurd (omega (arith, parent_lt t tree i l))

  -- the operands of a node are those whose parent it is
  names : (i x : ℕ) → i < t.size → parent t x ≡ i → mem x (operands (t.node i)) ≡ true
  unfolding parent
  names i x h e = subst (λ j. mem x (operands (t.node j)) ≡ true) e (lowest_holds (λ j. mem x (operands (t.node j))) t.size (omega arith))

  names_not : (i x : ℕ) → i < t.size → (parent t x ≡ i → ⊥) → mem x (operands (t.node i)) ≡ false
  names_not i x h n = absent _ (λ m. n (parent_is t tree i x h m))

  scopes_start : (r : ℕ) (ps ls : List ℕ) → suc r ≡ t.size → get_or ps r 0 ≡ t.size → get_or ls r 0 ≡ 0 → ScopesFrom t t.size ps ls
  scopes_start r ps ls h p l =
      record {
        parent_is = λ x k m.
            let e : r ≡ x = omega (arith, only_root x k m) in
            subst (λ y. get_or ps y 0 ≡ enclosing t y) e (p ∙ sym (enclosing_root t tree r h));
        level_is = λ x k m. absurd (omega arith);
        inherited_is = λ x q k m.
            let e : r ≡ x = omega (arith, only_root x k m) in
            subst (λ y. pick (inner t y) 1 0 + get_or ls y 0 ≡ level t y) e (omega (arith, level_root t tree r h, pick_no {A = ℕ} (inner t r) 1 0 (inner_root t r h)));
      }

  -- node i's level, given that its parent's is known
  own_level_is : (i : ℕ) (ps ls : List ℕ) → i < t.size → ScopesFrom t (i + 1) ps ls → pick (inner t i) 1 0 + get_or ls i 0 ≡ level t i
  own_level_is i ps ls h s = s.inherited_is i (omega arith) h (omega (arith, parent_above i h))

  -- node i hands its block and its level down to its operands
  scopes_step : (i b : ℕ) (ps ls ms ps' ls' : List ℕ) → i < t.size → ScopesFrom t (i + 1) ps ls
      → b ≡ pick (is_block (t.node i)) i (get_or ps i 0)
      → ((x : ℕ) → get_or ms x 0 ≡ pick (eqb x i) (level t i) (get_or ls x 0))
      → Stored (operands (t.node i)) b ps ps' → Stored (operands (t.node i)) (level t i) ms ls'
      → ScopesFrom t i ps' ls'
  scopes_step i b ps ls ms ps' ls' h s eb own sp sl =
      record {
        parent_is = λ x k m. parent_at x k m (look (eqb (parent t x) i));
        level_is = λ x k l. level_at x k l (look (eqb x i));
        inherited_is = λ x q k m. inherited_at x q k m (look (eqb (parent t x) i));
      }
    where
      parent_at : (x : ℕ) → x < t.size → i ≤ parent t x → Is (eqb (parent t x) i) → get_or ps' x 0 ≡ enclosing t x
      parent_at x k m (is_true e) =
          let n = names i x h (eqb-true _ _ e) in
          let q : b ≡ pick (is_block (t.node i)) i (enclosing t i) = eb ∙ ap (pick (is_block (t.node i)) i) (s.parent_is i h (omega (arith, parent_above i h))) in
          sp.element_is x ∙ pick_yes _ _ _ n ∙ q ∙ sym (enclosing_step t tree i x h n)
      parent_at x k m (is_false e) =
          let d = eqb-false (parent t x) i e in
          sp.element_is x ∙ pick_no _ _ _ (names_not i x h d) ∙ s.parent_is x k (omega arith)

      level_at : (x : ℕ) → i ≤ x → x < t.size → Is (eqb x i) → get_or ls' x 0 ≡ level t x
      level_at x k l e =
          let n = names_not i x h (λ q. omega (arith, parent_above x l)) in
          sl.element_is x ∙ pick_no _ _ _ n ∙ own x ∙ go e
        where
          go : Is (eqb x i) → pick (eqb x i) (level t i) (get_or ls x 0) ≡ level t x
          go (is_true e) = pick_yes _ _ _ e ∙ ap (level t) (sym (eqb-true x i e))
          go (is_false e) =
              let d = eqb-false x i e in pick_no _ _ _ e ∙ s.level_is x (omega arith) l

      inherited_at : (x : ℕ) → x < i → x < t.size → i ≤ parent t x → Is (eqb (parent t x) i) → pick (inner t x) 1 0 + get_or ls' x 0 ≡ level t x
      inherited_at x q k m (is_true e) =
          let p = eqb-true (parent t x) i e in
          let g = sl.element_is x ∙ pick_yes _ _ _ (names i x h p) in
          omega (arith, g, level_step t tree x (omega arith), ap (level t) p)
      inherited_at x q k m (is_false e) =
          let d = eqb-false (parent t x) i e in
          let g = sl.element_is x ∙ pick_no _ _ _ (names_not i x h d) ∙ own x ∙ pick_no _ _ _ (ne_eqb x i (λ z. omega arith)) in
          omega (arith, g, s.inherited_is x (omega arith) k (omega arith))

  pub scopes_end : (i : ℕ) (ps ls : List ℕ) → i ≡ 0 → ScopesFrom t i ps ls → Parents t ps × NodeLevels t ls
  scopes_end i ps ls e s = (
    record { parent_is = λ x h. s.parent_is x h (omega arith) },
    record { level_is = λ x h. s.level_is x (omega arith) h },
  )

-- The same of an accepted table.
module _ (ws ls : List ℕ) (ok : verdict ws ls ≡ accepted) (i : ℕ) (h : i < node_count ws) where
  pub inherited_small : (ps vs : List ℕ) → ScopesFrom (table_of ws ls) (i + 1) ps vs → get_or vs i 0 < limit
  unfolding table_of
  inherited_small ps vs s = omega (arith, own_level_is (table_of ws ls) (accepted_tree ws ls ok) i ps vs h s, level_small ws ls ok i h)

  -- what node i hands down, by its kind
  module _ (ps vs : List ℕ) (s : ScopesFrom (table_of ws ls) (i + 1) ps vs) where
    own : pick (inner (table_of ws ls) i) 1 0 + get_or vs i 0 ≡ level (table_of ws ls) i
    unfolding table_of
    own = own_level_is (table_of ws ls) (accepted_tree ws ls ok) i ps vs h s

    outer_own : inner (table_of ws ls) i ≡ false → get_or vs i 0 ≡ level (table_of ws ls) i
    outer_own n = omega (arith, own, pick_no {A = ℕ} (inner (table_of ws ls) i) 1 0 n)

    pub inner_own : is_block (node_at ws ls i) ≡ true → (i + 1 ≡ node_count ws → ⊥) → get_or vs i 0 + 1 ≡ level (table_of ws ls) i
    unfolding table_of
    inner_own e n =
        let y : inner (table_of ws ls) i ≡ true = inner_is (table_of ws ls) i (omega arith) ∙ e in
        omega (arith, own, pick_yes {A = ℕ} (inner (table_of ws ls) i) 1 0 y)

    pub plain_filled : (xs ps' vs' : List ℕ) → operands (node_at ws ls i) ≡ xs → is_block (node_at ws ls i) ≡ false
        → Stored xs (get_or ps i 0) ps ps' → Stored xs (get_or vs i 0) vs vs' → ScopesFrom (table_of ws ls) i ps' vs'
    unfolding table_of
    plain_filled xs ps' vs' q e sp sv =
        let l = outer_own (not_inner (table_of ws ls) i e) in
        scopes_step (table_of ws ls) (accepted_tree ws ls ok) i (get_or ps i 0) ps vs vs ps' vs' h s (sym (pick_no _ _ _ e)) (same_stored vs i _ l) (rw q sp) (rw (q, ← l) sv)

    pub root_filled : (x : ℕ) (ps' vs' : List ℕ) → operands (node_at ws ls i) ≡ x ∷ [] → is_block (node_at ws ls i) ≡ true → i + 1 ≡ node_count ws
        → Stored (x ∷ []) i ps ps' → Stored (x ∷ []) (get_or vs i 0) vs vs' → ScopesFrom (table_of ws ls) i ps' vs'
    unfolding table_of
    root_filled x ps' vs' q e z sp sv =
        let l = outer_own (inner_root (table_of ws ls) i (rw add-one at z)) in
        scopes_step (table_of ws ls) (accepted_tree ws ls ok) i i ps vs vs ps' vs' h s (sym (pick_yes _ _ _ e)) (same_stored vs i _ l) (rw q sp) (rw (q, ← l) sv)

    pub inner_filled : (x : ℕ) (ps' vs' : List ℕ) → operands (node_at ws ls i) ≡ x ∷ [] → is_block (node_at ws ls i) ≡ true
        → (i + 1 ≡ node_count ws → ⊥) → length vs ≡ limit
        → Stored (x ∷ []) i ps ps' → Stored (x ∷ []) (get_or vs i 0 + 1) (set vs i (get_or vs i 0 + 1)) vs' → ScopesFrom (table_of ws ls) i ps' vs'
    unfolding table_of
    inner_filled x ps' vs' q e n w sp sv =
        let l = inner_own e n in
        scopes_step (table_of ws ls) (accepted_tree ws ls ok) i i ps vs (set vs i (get_or vs i 0 + 1)) ps' vs' h s (sym (pick_yes _ _ _ e))
        (λ x. get_d_set vs i (get_or vs i 0 + 1) 0 (omega (arith, nodes_few ws ls ok)) x ∙ ap (λ k. pick (eqb x i) k (get_or vs x 0)) l) (rw q sp) (rw (q, ← l) sv)

module _ (ws ls : List ℕ) (ok : verdict ws ls ≡ accepted) where
  -- the root has no parent block and is at level 0
  pub scopes_begun : (ps vs : List ℕ) → length ps ≡ limit → length vs ≡ limit
      → ScopesFrom (table_of ws ls) (node_count ws) (set ps (node_count ws - 1) (node_count ws)) (set vs (node_count ws - 1) 0)
  unfolding table_of
  scopes_begun ps vs p v =
      let n = nodes_few ws ls ok in
      let m = nodes_some ws ls ok in
      scopes_start (table_of ws ls) (accepted_tree ws ls ok) (node_count ws - 1) _ _ (omega arith)
      (get_or-set_same ps (node_count ws - 1) (node_count ws) 0 (omega arith))
      (get_or-set_same vs (node_count ws - 1) 0 0 (omega arith))
