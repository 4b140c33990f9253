-- Laws of the walk: what holds at a place holds at the next, at the first, and gives the bindings at the last.
-- Assumes nothing.
use mathlib.Core.Path.{◌≡◌, refl, sym, ◌∙◌, ap, subst}
use mathlib.Core.Bool.{true, ◌||◌}
use mathlib.Core.List.{List, [], ◌∷◌}
use mathlib.Core.Logic.{◌⊎◌, inl, inr}
use Prim.Native.Nat.{ℕ, suc, ◌+◌, ◌*◌, ◌≤◌, ◌<◌}
use native.Mathlib.Omega.{arith}
use lib.Dec.{eqb}
use lib.ListN.{length, get_or, set, length-set}
use lib.Seq.{get_or-set_same, get_or-set_other}
use borrow.Author.Tests.{eqb-true, eqb-false}
use Rattle.lists.specs.Choice.{Is, is_true, is_false, look, clash, or_cases, and_left, and_right}
use Rattle.lists.specs.Members.{mem}
use Rattle.formula.specs.Node.{variable, Table, is_block}
use Rattle.formula.specs.Words.{width, node_count, field, node_at, table_of}
use Rattle.formula.specs.Tree.{Tree, count, bound_below}
use Rattle.acceptance.specs.Limits.{limit}
use Rattle.acceptance.proofs.Accepted.{accepted_holds}
use Rattle.prenex_form.specs.Names.{bound_count}
use Rattle.prenex_form.proofs.Limits.{bound_limit}
use Rattle.arrays.specs.Link.{link}
use Rattle.arrays.specs.Held.{enclosing, is_member, member, bound_entry, Bindings}
use Rattle.arrays.proofs.Link.{link_le, link_some}
use Rattle.arrays.proofs.Enclosing.{enclosing_le, enclosing_block}
use Rattle.arrays.proofs.Members.{block_member}
use Rattle.arrays.proofs.Entries.{bound_below_end}
use Rattle.binders.specs.declared.Place.{Place}
use Rattle.binders.specs.Scope.{Open}
use Rattle.binders.specs.Walk.{Scopes, todo, Walking, Unfinished, steps_left, walk_steps}
use Rattle.binders.proofs.Tables.{variable_no_block, variable_member, kind_no_block, kind_binds_none, node_within}
use Rattle.binders.proofs.Todo.{todo_leave, todo_pass, todo_enter, todo_all, todo_end}
use Rattle.binders.proofs.Steps.{walk_steps-le, steps_next, steps_start, steps_end}

-- every variable node has its binding or is still to come by
abbrev Known : Table → List ℕ → List ℕ → Type 0
Known t bindings left =
    (i x : ℕ) → i < t.size → t.node i ≡ variable x → (get_or bindings i 0 ≡ bound_entry t i x) ⊎ (mem i left ≡ true)

-- after one more node h, at which only its own binding may have changed
known_next : (t : Table) (bindings bindings' left left' : List ℕ) (h : ℕ) → left ≡ h ∷ left'
    → ((x : ℕ) → t.node h ≡ variable x → get_or bindings' h 0 ≡ bound_entry t h x)
    → ((i : ℕ) → (i ≡ h → ⊥) → get_or bindings' i 0 ≡ get_or bindings i 0) → Known t bindings left → Known t bindings' left'
unfolding mem
known_next t bs cs left left' h e here other known i x l v = go (look (eqb i h)) (known i x l v)
  where
    go : Is (eqb i h) → (get_or bs i 0 ≡ bound_entry t i x) ⊎ (mem i left ≡ true) → (get_or cs i 0 ≡ bound_entry t i x) ⊎ (mem i left' ≡ true)
    go (is_true q) k =
        let s = eqb-true i h q in
        inl (subst (λ j. get_or cs j 0 ≡ bound_entry t j x) (sym s) (here x (subst (λ j. t.node j ≡ variable x) s v)))
    go (is_false q) (inl k) = inl (other i (eqb-false i h q) ∙ k)
    go (is_false q) (inr k) =
        let m : (eqb i h || mem i left') ≡ true = subst (λ (r : List ℕ). mem i r ≡ true) e k in
        inr (or_cases (eqb i h) (mem i left') m (λ y. clash y q) (λ y. y))

-- Node i is one of the table's, so each array has a place for it.
pub record Indexed (ws parents firsts nexts starts : List ℕ) (i : ℕ) : Type 0 where
  pub below : i < node_count ws
  pub in_words : width * i + width ≤ length ws
  pub in_parents : i < length parents
  pub in_firsts : i < length firsts
  pub in_nexts : i < length nexts
  pub in_starts : i < length starts

-- What holds at a place in scope b, with the link of b's chain that was looked for from j on.
module _ (ws ls : List ℕ) (q : Place) (b j : ℕ) (s : q.scope ≡ b) (l : q.link ≡ link (member (table_of ws ls) b) j (table_of ws ls).size) where
  linked : q.link ≡ link (member (table_of ws ls) q.scope) j (table_of ws ls).size
  linked = subst (λ c. q.link ≡ link (member (table_of ws ls) c) j (table_of ws ls).size) (sym s) l

  at_place : {bindings heads links : List ℕ} → length bindings ≡ limit → b ≤ node_count ws
      → (b < node_count ws → is_block ((table_of ws ls).node b) ≡ true) → Open (table_of ws ls) b 0 heads links
      → Known (table_of ws ls) bindings (todo (table_of ws ls) q) → Walking ws ls bindings heads links q
  unfolding table_of
  at_place {bindings} {heads} {links} n h e o k =
      record {
        bindings_length = n;
        scope_le = omega arith;
        scope_block = λ m. subst (λ c. is_block ((table_of ws ls).node c) ≡ true) (sym s) (e (omega arith));
        link_le = omega (arith, link_le (member (table_of ws ls) b) j (table_of ws ls).size);
        link_member = λ i q. (link_some (member (table_of ws ls) _) j (table_of ws ls).size i (sym linked ∙ q)).passes;
        opened = subst (λ c. Open (table_of ws ls) c 0 heads links) (sym s) o;
        found = k;
      }

-- What a step from p to q comes to: the steps that it takes are no longer left.
abbrev pub Stepped : List ℕ → List ℕ → List ℕ → List ℕ → List ℕ → Place → Place → Type 0
Stepped ws ls bindings heads links p q =
    Walking ws ls bindings heads links q
    × ((q.steps + steps_left (table_of ws ls) q ≡ p.steps + steps_left (table_of ws ls) p) × (p.steps < q.steps))

-- What a place tells: the block that it leaves, or the node that it comes by.
module _ {ws ls bindings heads links : List ℕ} {p : Place} (w : Walking ws ls bindings heads links p) where
  -- what is left to do where the link is 0 is to leave a block
  pub block_left : Unfinished ws ls p → p.link ≡ 0 → p.scope < node_count ws
  block_left (inl h) z = h
  block_left (inr h) z = absurd (omega arith)

  module _ {i : ℕ} (at : p.link ≡ suc i) where
    pub link_lt : i < node_count ws
    link_lt = omega (arith, w.link_le)

    link_scope : enclosing (table_of ws ls) i ≡ p.scope
    link_scope = eqb-true _ _ (and_right (is_member ((table_of ws ls).node i)) _ (w.link_member i at))

    pub link-is_member : is_member ((table_of ws ls).node i) ≡ true
    link-is_member = and_left (is_member ((table_of ws ls).node i)) _ (w.link_member i at)

    -- the entries of its scope
    pub link_open : Open (table_of ws ls) (enclosing (table_of ws ls) i) 0 heads links
    link_open = subst (λ c. Open (table_of ws ls) c 0 heads links) (sym link_scope) w.opened

module _ {ws ls parents firsts nexts starts : List ℕ} (s : Scopes ws ls parents firsts nexts starts) where
  tree : Tree (table_of ws ls)
  tree = (accepted_holds ws ls s.accepts).proper.tree

  pub nodes_few : node_count ws ≤ limit
  nodes_few = (accepted_holds ws ls s.accepts).nodes_limit

  pub indexed : (i : ℕ) → i < node_count ws → Indexed ws parents firsts nexts starts i
  indexed i h =
      record {
        below = h;
        in_words = node_within ws ls i s.accepts h;
        in_parents = omega (arith, nodes_few, s.parents_length);
        in_firsts = omega (arith, nodes_few, s.firsts_length);
        in_nexts = omega (arith, nodes_few, s.nexts_length);
        in_starts = omega (arith, nodes_few, s.starts_length);
      }

  pub start_at : (i : ℕ) → i < node_count ws → is_block ((table_of ws ls).node i) ≡ true → get_or starts i 0 ≡ bound_below (table_of ws ls) i
  unfolding table_of
  start_at i h e = s.starts_hold.start_is i h e

  parent_scope : (i : ℕ) → i < node_count ws → get_or parents i 0 ≡ enclosing (table_of ws ls) i
  unfolding table_of
  parent_scope i h = s.parents_hold.parent_is i h

  next_link : (i : ℕ) → i < node_count ws → is_member ((table_of ws ls).node i) ≡ true
      → get_or nexts i 0 ≡ link (member (table_of ws ls) (enclosing (table_of ws ls) i)) (suc i) (table_of ws ls).size
  unfolding table_of
  next_link i h e = s.chains_hold.next_is i h e

  first_link : (b : ℕ) → b ≤ node_count ws → get_or firsts b 0 ≡ link (member (table_of ws ls) b) 0 (table_of ws ls).size
  unfolding table_of
  first_link b h = s.chains_hold.first_is b h

  -- A step from p to q, where the working arrays change so that they hold the entries of q's scope.
  module _ {bindings heads links : List ℕ} {p : Place} (w : Walking ws ls bindings heads links p) (q : Place) where
    -- at the end of a scope
    pub leaves : {heads' links' : List ℕ} (taken : ℕ) → p.link ≡ 0 → p.scope < node_count ws → q.scope ≡ get_or parents p.scope 0
        → q.link ≡ get_or nexts p.scope 0 → q.steps ≡ p.steps + 1 + taken → taken ≡ count (table_of ws ls) p.scope
        → Open (table_of ws ls) (enclosing (table_of ws ls) p.scope) 0 heads' links'
        → Stepped ws ls bindings heads' links' p q
    unfolding table_of
    leaves taken z h a b n c o =
        let e = w.scope_block h in
        let s = a ∙ parent_scope p.scope h in
        let l = b ∙ next_link p.scope h (block_member _ e) in
        let d = todo_leave (table_of ws ls) tree p q z h s (linked ws ls q _ _ s l) in (
          at_place ws ls q _ _ s l w.bindings_length (enclosing_le (table_of ws ls) tree p.scope) (enclosing_block (table_of ws ls) tree p.scope) o
              (known_next (table_of ws ls) bindings bindings _ _ p.scope d (λ x v. clash e (variable_no_block _ x v)) (λ i n. refl) w.found),
          steps_next (table_of ws ls) p q p.scope taken d c n,
        )

    module _ {i : ℕ} (at : p.link ≡ suc i) where
      -- past a variable node, whose binding is r
      pub passes : (r : ℕ) → field ws i 0 ≡ 2 → ((x : ℕ) → node_at ws ls i ≡ variable x → r ≡ bound_entry (table_of ws ls) i x)
          → q.scope ≡ p.scope → q.link ≡ get_or nexts i 0 → q.steps ≡ p.steps + 1
          → Stepped ws ls (set bindings i r) heads links p q
      unfolding table_of
      passes r k f s b n =
          let h = link_lt w at in
          let l : q.link ≡ link (member (table_of ws ls) p.scope) (suc i) (table_of ws ls).size =
          b ∙ next_link i h (link-is_member w at) ∙ ap (λ (c : ℕ). link (member (table_of ws ls) c) (suc i) (table_of ws ls).size) (link_scope w at) in
          let d = todo_pass (table_of ws ls) tree p q i at h (w.link_member i at) (kind_no_block ws ls i k) s (linked ws ls q _ _ s l) in
          let wide : i < length bindings = omega (arith, nodes_few, w.bindings_length) in (
            at_place ws ls q _ _ s l (length-set bindings i r ∙ w.bindings_length) w.scope_le w.scope_block
                w.opened
                (known_next (table_of ws ls) bindings (set bindings i r) _ _ i d (λ x v. get_or-set_same bindings i r 0 wide ∙ f x v) (λ j n. get_or-set_other bindings i j r 0 n) w.found),
            steps_next (table_of ws ls) p q i 0 d (kind_binds_none ws ls i k) (omega arith),
          )

      -- into a block
      pub enters : {heads' links' : List ℕ} (put : ℕ) → is_block ((table_of ws ls).node i) ≡ true → q.scope ≡ i → q.link ≡ get_or firsts i 0
          → q.steps ≡ p.steps + 1 + put → put ≡ count (table_of ws ls) i → Open (table_of ws ls) i 0 heads' links' → Stepped ws ls bindings heads' links' p q
      unfolding table_of
      enters put e s b n c o =
          let h = link_lt w at in
          let l = b ∙ first_link i (omega arith) in
          let d = todo_enter (table_of ws ls) tree p q i at h (w.link_member i at) e s (linked ws ls q _ _ s l) in (
            at_place ws ls q _ _ s l w.bindings_length (omega arith) (λ m. e) o
                (known_next (table_of ws ls) bindings bindings _ _ i d (λ x v. clash e (variable_no_block _ x v)) (λ j n. refl) w.found),
            steps_next (table_of ws ls) p q i put d c n,
          )

  -- the first place, outside all blocks
  pub begun : {heads links : List ℕ} (bindings : List ℕ) (p : Place) → length bindings ≡ limit
      → Open (table_of ws ls) (node_count ws) 0 heads links → p.scope ≡ node_count ws → p.link ≡ get_or firsts (node_count ws) 0
      → Walking ws ls bindings heads links p
  unfolding table_of
  begun bindings p n o s b =
      let l = b ∙ first_link (node_count ws) (omega arith) in
      at_place ws ls p _ _ s l n (omega arith) (λ h. absurd (omega arith)) o
      (λ i x h v. inr (todo_all (table_of ws ls) tree p i s (linked ws ls p _ _ s l) h (variable_member _ x v)))

  -- where all steps are left
  pub begun_steps : (p : Place) → p.scope ≡ node_count ws → p.link ≡ get_or firsts (node_count ws) 0 → p.steps ≡ 0
      → p.steps + steps_left (table_of ws ls) p ≡ walk_steps (table_of ws ls)
  unfolding table_of
  begun_steps p s b z =
      let l = b ∙ first_link (node_count ws) (omega arith) in
      omega (arith, steps_start (table_of ws ls) tree p s (linked ws ls p _ _ s l))

  -- the last, where nothing is left
  pub ended : {bindings heads links : List ℕ} {p : Place} → Walking ws ls bindings heads links p → node_count ws ≤ p.scope
      → p.link ≡ 0 → Bindings (table_of ws ls) bindings
  unfolding table_of mem
  ended {bindings} {p = p} w h z =
      let e : p.scope ≡ node_count ws = omega (arith, w.scope_le) in
      record { binding_is = λ i x l v. none i x (todo_end (table_of ws ls) tree p e z) (w.found i x l v) }
    where
      none : (i x : ℕ) → todo (table_of ws ls) p ≡ []
          → (get_or bindings i 0 ≡ bound_entry (table_of ws ls) i x) ⊎ (mem i (todo (table_of ws ls) p) ≡ true) → get_or bindings i 0 ≡ bound_entry (table_of ws ls) i x
      none i x e (inl k) = k
      none i x e (inr k) = clash k (ap (mem i) e)

  -- and all steps have been taken
  pub ended_steps : {bindings heads links : List ℕ} {p : Place} → Walking ws ls bindings heads links p → node_count ws ≤ p.scope
      → p.link ≡ 0 → p.steps + steps_left (table_of ws ls) p ≡ walk_steps (table_of ws ls) → p.steps ≡ walk_steps (table_of ws ls)
  unfolding table_of
  ended_steps {p = p} w h z e = omega (arith, steps_end (table_of ws ls) tree p (omega (arith, w.scope_le)) z)

  pub steps_linear : walk_steps (table_of ws ls) ≤ 2 * (node_count ws + bound_count (table_of ws ls))
  unfolding table_of
  steps_linear = walk_steps-le (table_of ws ls)

  -- so no sum of them wraps, also with the entries of a block
  pub steps_few : walk_steps (table_of ws ls) ≤ 4 * limit
  steps_few = omega (arith, steps_linear, nodes_few, bound_limit ws ls (accepted_holds ws ls s.accepts))

  pub count_few : (i : ℕ) → i < node_count ws → count (table_of ws ls) i ≤ limit
  unfolding table_of
  count_few i h = omega (arith, bound_below_end (table_of ws ls) i h, bound_limit ws ls (accepted_holds ws ls s.accepts))
