-- Parents, paths, binders and levels of a tree, one step at a time: what holds of a node follows from what holds of its parent.
-- Assumes nothing.
use mathlib.Core.Path.{◌≡◌, refl, sym, ◌∙◌, ap, subst}
use mathlib.Core.Bool.{Bool, true, false, not, ◌&&◌, ◌||◌, and-true, and-false}
use mathlib.Core.List.{List, [], ◌∷◌}
use Prim.Native.Nat.{ℕ, zero, suc, ◌+◌, ◌-◌, ◌≤◌, ◌<◌}
use native.Mathlib.Omega.{arith}
use lib.Dec.{eqb, ltb}
use borrow.Author.Tests.{ltb-true, ltb-false, eqb-true, eqb-false, eq-eqb, ne_eqb, lt-ltb, le-ltb, not-true}
use Rattle.lists.specs.Choice.{pick, pick_yes, pick_no, Is, is_true, is_false, look, clash, and_left, and_right, and_both, or_right, or_cases, absent, and_off_right}
use Rattle.lists.specs.Search.{lowest}
use Rattle.lists.specs.Members.{mem, times, place}
use Rattle.lists.specs.Parts.{highest}
use Rattle.lists.proofs.Search.{lowest_le, lowest_holds, lowest_is, lowest_none, lowest_cong}
use Rattle.lists.proofs.Members.{mem_one, mem_head, times_zero, times_positive, mem_nil}
use Rattle.lists.proofs.Parts.{two_terms_le, sum_positive, mem-up_to, mem_up_to_from, highest_ge, highest_attained, highest_le, pick_le}
use Rattle.formula.specs.Node.{Node, constant, variable, negation, operator, block, Table, operands, is_block, bound}
use Rattle.formula.specs.Tree.{Tree, times_named}
use Rattle.prenex_form.specs.Scope.{parent, path_up, path, above, covers, binder, inner, how_many, level, depth}
use Rattle.prenex_form.specs.Names.{first_name, new_name}
use Rattle.prenex_form.specs.Levels.{blocks_at, levels}
use Rattle.prenex_form.specs.Matrix.{kept, body_of}

-- a test, and the same test without e
or_without : (e m : Bool) → (e ≡ true → m ≡ false) → ((e || m) && not e) ≡ m
or_without true m h = sym (h refl)
or_without false m h = and-true m

with_or : (e m : Bool) → (e ≡ true → m ≡ true) → m ≡ (e || (m && not e))
with_or true m h = h refl
with_or false m h = sym (and-true m)

-- what a list holds at least once stands in it
times_mem : (xs : List ℕ) (x : ℕ) → 0 < times x xs → Is (mem x xs) → mem x xs ≡ true
times_mem xs x h (is_true e) = e
times_mem xs x h (is_false e) = let z = times_zero x xs e in absurd (omega arith)

-- one step of a path
path_on : (t : Table) (f i : ℕ) → parent t i < t.size → path_up (suc f) t i ≡ i ∷ path_up f t (parent t i)
unfolding path_up
path_on t f i h = ap (λ (l : List ℕ). i ∷ l) (pick_yes _ _ _ (lt-ltb _ _ h))

path_end : (t : Table) (f i : ℕ) → t.size ≤ parent t i → path_up (suc f) t i ≡ i ∷ []
unfolding path_up
path_end t f i h = ap (λ (l : List ℕ). i ∷ l) (pick_no _ _ _ (le-ltb _ _ h))

-- how many of a list, one element at a time
how_many-cons : (p : ℕ → Bool) (i : ℕ) (is : List ℕ) → how_many p (i ∷ is) ≡ pick (p i) 1 0 + how_many p is
unfolding how_many
how_many-cons p i is = refl

how_many-one : (p : ℕ → Bool) (i : ℕ) → how_many p (i ∷ []) ≡ pick (p i) 1 0
unfolding how_many
how_many-one p i = omega arith

-- the highest of numbers that are all greater by c is greater by c
highest_shift : (f g : ℕ → ℕ) (n c : ℕ) → 0 < n → ((i : ℕ) → i < n → f i ≡ g i + c) → highest f n ≡ highest g n + c
highest_shift f g n c h e = go (look (ltb 0 (highest g n)))
  where
    up : highest f n ≤ highest g n + c
    up = highest_le f n (highest g n + c) (λ i l. omega (arith, highest_ge g n i l, e i l))

    go : Is (ltb 0 (highest g n)) → highest f n ≡ highest g n + c
    go (is_true p) =
        let r = highest_attained g n (ltb-true _ _ p) in
        omega (arith, up, r.2, e r.0 r.1, highest_ge f n r.0 r.1)
    go (is_false p) =
        let z = ltb-false 0 (highest g n) p in
        omega (arith, up, e 0 h, highest_ge f n 0 h)

-- bodies and operands
pub body_named : (n : Node) → is_block n ≡ true → mem (body_of n) (operands n) ≡ true
unfolding is_block body_of operands
body_named (constant b) h = clash h refl
body_named (variable x) h = clash h refl
body_named (negation a) h = clash h refl
body_named (operator f a b) h = clash h refl
body_named (block q xs a) h = mem_head a []

body_only : (n : Node) (i : ℕ) → is_block n ≡ true → mem i (operands n) ≡ true → i ≡ body_of n
unfolding is_block body_of operands
body_only (constant b) i h m = clash h refl
body_only (variable x) i h m = clash h refl
body_only (negation a) i h m = clash h refl
body_only (operator f a b) i h m = clash h refl
body_only (block q xs a) i h m = eqb-true i a (sym (mem_one i a) ∙ m)

-- blocks other than the root are inner
pub inner_is : (t : Table) (i : ℕ) → suc i < t.size → inner t i ≡ is_block (t.node i)
unfolding inner
inner_is t i h = rw (ne_eqb (suc i) t.size (λ e. omega arith)) (and-true _)

pub inner_block : (t : Table) (i : ℕ) → inner t i ≡ true → is_block (t.node i) ≡ true
unfolding inner
inner_block t i h = and_left (is_block (t.node i)) _ h

pub not_inner : (t : Table) (i : ℕ) → is_block (t.node i) ≡ false → inner t i ≡ false
unfolding inner
not_inner t i h = rw h

pub inner_root : (t : Table) (i : ℕ) → suc i ≡ t.size → inner t i ≡ false
unfolding inner
inner_root t i h = rw (eq-eqb (suc i) t.size h) (and-false (is_block (t.node i)))

-- all nodes are kept but a root that is a block
pub kept_le : (t : Table) → kept t ≤ t.size
unfolding kept
kept_le t = omega arith

pub kept_root : (t : Table) (i : ℕ) → suc i ≡ t.size → is_block (t.node i) ≡ true → kept t ≡ i
unfolding kept
kept_root t i h b =
    let e : t.size - 1 ≡ i = omega arith in
    let y : ◌≡◌ {A = ℕ} (pick (is_block (t.node (t.size - 1))) 1 0) 1 = rw e (pick_yes _ _ _ b) in omega arith

pub kept_inner : (t : Table) (i : ℕ) → i < kept t → is_block (t.node i) ≡ true → inner t i ≡ true
unfolding inner
kept_inner t i h b = and_both _ _ b (ap not (ne_eqb (suc i) t.size (λ e. omega (arith, kept_root t i e b))))

pub binder_le : (t : Table) (i x : ℕ) → binder t i x ≤ t.size
unfolding binder
binder_le t i x = lowest_le _ t.size

module _ (t : Table) (tree : Tree t) where
  -- no two nodes name one node
  named_once : (j k i : ℕ) → j < k → k < t.size → suc i < t.size → mem i (operands (t.node j)) ≡ true → mem i (operands (t.node k)) ≡ true → ⊥
  unfolding times_named
  named_once j k i l h s m n =
      let a = times_positive i (operands (t.node j)) m in
      let b = times_positive i (operands (t.node k)) n in
      let c = two_terms_le (λ j. times i (operands (t.node j))) t.size j k l h in
      let d = tree.once i s in omega arith

  parent_below : (j k i : ℕ) → j < t.size → mem i (operands (t.node j)) ≡ true → k < j → mem i (operands (t.node k)) ≡ false
  parent_below j k i h m l =
      let s = tree.lower j i h m in
      absent _ (λ n. named_once k j i l h (omega arith) n m)

  -- the node that names i is its parent, and there is one for each node but the root
  pub parent_is : (j i : ℕ) → j < t.size → mem i (operands (t.node j)) ≡ true → parent t i ≡ j
  unfolding parent
  parent_is j i h m = lowest_is (λ j. mem i (operands (t.node j))) t.size j h m (λ k l. parent_below j k i h m l)

  -- a parent, if there is one, names the node and is higher
  below_names : (i : ℕ) → parent t i < t.size → mem i (operands (t.node (parent t i))) ≡ true
  unfolding parent
  below_names i h = lowest_holds (λ j. mem i (operands (t.node j))) t.size h

  below_higher : (i : ℕ) → parent t i < t.size → i < parent t i
  below_higher i h = tree.lower (parent t i) i h (below_names i h)

  pub parent_lt : (i : ℕ) → suc i < t.size → parent t i < t.size
  unfolding times_named
  parent_lt i h =
      let o = tree.once i h in
      let s = sum_positive (λ j. times i (operands (t.node j))) t.size (omega arith) in
      let e = parent_is s.0 i s.1 (times_mem (operands (t.node s.0)) i s.2 (look _)) in
      omega (arith, s.1)

  pub parent_names : (i : ℕ) → suc i < t.size → mem i (operands (t.node (parent t i))) ≡ true
  parent_names i h = below_names i (parent_lt i h)

  pub parent_higher : (i : ℕ) → suc i < t.size → i < parent t i
  parent_higher i h = below_higher i (parent_lt i h)

  pub root_parent : (i : ℕ) → suc i ≡ t.size → parent t i ≡ t.size
  unfolding parent
  root_parent i h =
      lowest_none (λ j. mem i (operands (t.node j))) t.size
      (λ j l. absent _ (λ m. let k = tree.lower j i l m in omega arith))

  climb_from : (P : ℕ → Type 0) → ((i : ℕ) → suc i ≡ t.size → P i) → ((i : ℕ) → suc i < t.size → P (parent t i) → P i)
      → (f i : ℕ) → i < t.size → t.size ≤ i + f → P i
  climb_from P r s zero i h k = absurd (omega arith)
  climb_from P r s (suc f) i h k = go (look (eqb (suc i) t.size)) (climb_from P r s f (parent t i))
    where
      go : Is (eqb (suc i) t.size) → (parent t i < t.size → t.size ≤ parent t i + f → P (parent t i)) → P i
      go (is_true e) next = r i (eqb-true _ _ e)
      go (is_false e) next =
          let n = eqb-false (suc i) t.size e in
          let l : suc i < t.size = omega arith in
          let u = parent_higher i l in
          s i l (next (parent_lt i l) (omega arith))

  -- what holds of the root, and of a node if of its parent, holds of every node
  pub climb : (P : ℕ → Type 0) → ((i : ℕ) → suc i ≡ t.size → P i) → ((i : ℕ) → suc i < t.size → P (parent t i) → P i)
      → (i : ℕ) → i < t.size → P i
  climb P r s i h = climb_from P r s t.size i h (omega arith)

  -- any two lengths that suffice give the same path
  paths_agree : (f g i : ℕ) → i < t.size → t.size ≤ i + f → t.size ≤ i + g → path_up f t i ≡ path_up g t i
  paths_agree zero g i h k l = absurd (omega arith)
  paths_agree (suc f) zero i h k l = absurd (omega arith)
  paths_agree (suc f) (suc g) i h k l = go (look (ltb (parent t i) t.size)) (paths_agree f g (parent t i))
    where
      go : Is (ltb (parent t i) t.size) → (parent t i < t.size → t.size ≤ parent t i + f → t.size ≤ parent t i + g → path_up f t (parent t i) ≡ path_up g t (parent t i))
          → path_up (suc f) t i ≡ path_up (suc g) t i
      go (is_true e) next =
          let b = ltb-true (parent t i) t.size e in
          let u = below_higher i b in
          path_on t f i b ∙ ap (λ (l : List ℕ). i ∷ l) (next b (omega arith) (omega arith)) ∙ sym (path_on t g i b)
      go (is_false e) next = let b = ltb-false (parent t i) t.size e in path_end t f i b ∙ sym (path_end t g i b)

  path_longer : (i : ℕ) → i < t.size → path t i ≡ path_up (suc t.size) t i
  unfolding path
  path_longer i h = paths_agree t.size (suc t.size) i h (omega arith) (omega arith)

  -- paths
  pub path_root : (i : ℕ) → suc i ≡ t.size → path t i ≡ i ∷ []
  path_root i h =
      let r = root_parent i h in
      path_longer i (omega arith) ∙ path_end t t.size i (omega arith)

  pub path_step : (i : ℕ) → suc i < t.size → path t i ≡ i ∷ path t (parent t i)
  unfolding path
  path_step i h = path_longer i (omega arith) ∙ path_on t t.size i (parent_lt i h)

  -- a path begins with its node, and goes up
  pub path_self : (i : ℕ) → i < t.size → mem i (path t i) ≡ true
  path_self =
      climb (λ i. mem i (path t i) ≡ true)
      (λ i h. rw (path_root i h) (mem_head i []))
      (λ i h r. rw (path_step i h) (mem_head i (path t (parent t i))))

  path_from_step : (b i : ℕ) → suc i < t.size → (mem b (path t (parent t i)) ≡ true → parent t i ≤ b) → mem b (i ∷ path t (parent t i)) ≡ true → i ≤ b
  unfolding mem
  path_from_step b i h r m =
      or_cases (eqb b i) (mem b (path t (parent t i))) m
      (λ e. let q = eqb-true b i e in omega arith)
      (λ n. omega (arith, r n, parent_higher i h))

  path_from : (b i : ℕ) → i < t.size → mem b (path t i) ≡ true → i ≤ b
  path_from b =
      climb (λ i. mem b (path t i) ≡ true → i ≤ b)
      (λ i h m. let e = eqb-true b i (sym (mem_one b i) ∙ (rw (path_root i h) at m)) in omega arith)
      (λ i h r m. path_from_step b i h r (rw (path_step i h) at m))

  -- blocks above a node
  pub above_root : (b i : ℕ) → suc i ≡ t.size → above t b i ≡ false
  unfolding above mem
  above_root b i h = rw (path_root i h) (or_without (eqb b i) false (λ e. refl))

  -- the parent's path is what is above a node
  above_is : (b i : ℕ) → suc i < t.size → above t b i ≡ mem b (path t (parent t i))
  unfolding above mem
  above_is b i h =
      rw (path_step i h)
      (or_without (eqb b i) (mem b (path t (parent t i)))
      (λ e. absent _ (λ m. omega (arith, eqb-true b i e, parent_higher i h, path_from b (parent t i) (parent_lt i h) m))))

  pub above_step : (b i : ℕ) → suc i < t.size → above t b i ≡ (eqb b (parent t i) || above t b (parent t i))
  unfolding above
  above_step b i h =
      above_is b i h
      ∙ with_or (eqb b (parent t i)) (mem b (path t (parent t i)))
      (λ e. subst (λ c. mem c (path t (parent t i)) ≡ true) (sym (eqb-true b (parent t i) e)) (path_self (parent t i) (parent_lt i h)))

  pub above_cases : {P : Type 0} (b i : ℕ) → suc i < t.size → above t b i ≡ true → (b ≡ parent t i → P) → (above t b (parent t i) ≡ true → P) → P
  above_cases b i h a f g =
      or_cases (eqb b (parent t i)) (above t b (parent t i)) (sym (above_step b i h) ∙ a) (λ e. f (eqb-true b (parent t i) e)) g

  -- from a node up to b: what holds right below b, and of a node if of its parent, holds of every node that b is above
  above_climb : (P : ℕ → Type 0) (b : ℕ) → ((i : ℕ) → suc i < t.size → b ≡ parent t i → P i)
      → ((i : ℕ) → suc i < t.size → above t b (parent t i) ≡ true → P (parent t i) → P i)
      → (i : ℕ) → i < t.size → above t b i ≡ true → P i
  above_climb P b f g =
      climb (λ i. above t b i ≡ true → P i)
      (λ i h a. clash a (above_root b i h))
      (λ i h r a. above_cases b i h a (f i h) (λ c. g i h c (r c)))

  pub above_higher : (b i : ℕ) → i < t.size → above t b i ≡ true → i < b
  above_higher b =
      above_climb (λ i. i < b) b
      (λ i h e. omega (arith, parent_higher i h))
      (λ i h a r. omega (arith, parent_higher i h))

  pub above_trans : (a b i : ℕ) → i < t.size → above t a b ≡ true → above t b i ≡ true → above t a i ≡ true
  above_trans a b i k p =
      above_climb (λ i. above t a i ≡ true) b
      (λ i h e. above_step a i h ∙ or_right (eqb a (parent t i)) (above t a (parent t i)) (subst (λ c. above t a c ≡ true) e p))
      (λ i h c r. above_step a i h ∙ or_right (eqb a (parent t i)) (above t a (parent t i)) r) i k

  -- two nodes above one node: one of them is above the other
  pub above_line : (a b i : ℕ) → i < t.size → above t a i ≡ true → above t b i ≡ true → a < b → above t b a ≡ true
  above_line a b i k p q h =
      above_climb (λ i. above t b i ≡ true → above t b a ≡ true) a
      (λ i l e c. above_cases b i l c (λ f. absurd (omega arith)) (λ d. subst (λ c. above t b c ≡ true) (sym e) d))
      (λ i l d r c. above_cases b i l c (λ f. absurd (omega (arith, above_higher a (parent t i) (parent_lt i l) d))) r)
      i k p q

  -- the nearest node above that passes a test: there is none above the root
  pub nearest_root : (q : ℕ → Bool) (i : ℕ) → suc i ≡ t.size → lowest (λ b. q b && above t b i) t.size ≡ t.size
  nearest_root q i h = lowest_none (λ b. q b && above t b i) t.size (λ b l. and_off_right (q b) (above t b i) (above_root b i h))

  -- the parent, if it passes, or else the parent's nearest
  pub nearest_step : (q : ℕ → Bool) (j i : ℕ) → j < t.size → mem i (operands (t.node j)) ≡ true
      → lowest (λ b. q b && above t b i) t.size ≡ pick (q j) j (lowest (λ b. q b && above t b j) t.size)
  nearest_step q j i h m = go (look (q j))
    where
      l : suc i < t.size
      l = omega (arith, tree.lower j i h m)

      up : (b : ℕ) → above t b i ≡ (eqb b j || above t b j)
      up b = subst (λ k. above t b i ≡ (eqb b k || above t b k)) (parent_is j i h m) (above_step b i l)

      off : (b : ℕ) → b < j → above t b i ≡ false
      off b k = absent _ (λ a. or_cases (eqb b j) (above t b j) (sym (up b) ∙ a) (λ e. omega (arith, eqb-true b j e)) (λ c. omega (arith, above_higher b j h c)))

      alike : q j ≡ false → (b : ℕ) → Is (eqb b j) → (q b && above t b i) ≡ (q b && above t b j)
      alike n b (is_true e) = subst (λ c. (q c && above t c i) ≡ (q c && above t c j)) (sym (eqb-true b j e)) (rw n)
      alike n b (is_false e) = rw (up b, e)

      go : Is (q j) → lowest (λ b. q b && above t b i) t.size ≡ pick (q j) j (lowest (λ b. q b && above t b j) t.size)
      go (is_true e) =
          lowest_is (λ b. q b && above t b i) t.size j h
          (and_both _ _ e (up j ∙ rw (eq-eqb j j refl)))
          (λ b k. and_off_right (q b) (above t b i) (off b k)) ∙ sym (pick_yes _ _ _ e)
      go (is_false e) =
          lowest_cong (λ b. q b && above t b i) (λ b. q b && above t b j) t.size (λ b k. alike e b (look (eqb b j))) ∙ sym (pick_no _ _ _ e)

  -- binders
  pub binder_root : (i x : ℕ) → suc i ≡ t.size → binder t i x ≡ t.size
  unfolding binder
  binder_root i x h = nearest_root (λ b. covers t b x) i h

  pub binder_step : (j i x : ℕ) → j < t.size → mem i (operands (t.node j)) ≡ true
      → binder t i x ≡ pick (is_block (t.node j) && mem x (bound (t.node j))) j (binder t j x)
  unfolding binder
  binder_step j i x h m = nearest_step (λ b. covers t b x) j i h m

  binder_holds : (i x : ℕ) → binder t i x < t.size → (covers t (binder t i x) x && above t (binder t i x) i) ≡ true
  unfolding binder
  binder_holds i x h = lowest_holds (λ b. covers t b x && above t b i) t.size h

  pub binder_block : (i x : ℕ) → binder t i x < t.size → is_block (t.node (binder t i x)) ≡ true
  binder_block i x h = and_left _ (mem x (bound (t.node (binder t i x)))) (and_left _ _ (binder_holds i x h))

  pub binder_above : (i x : ℕ) → binder t i x < t.size → above t (binder t i x) i ≡ true
  binder_above i x h = and_right (covers t (binder t i x) x) _ (binder_holds i x h)

  pub new_name_root : (i x : ℕ) → suc i ≡ t.size → new_name t i x ≡ x
  unfolding new_name
  new_name_root i x h = pick_no _ _ _ (le-ltb (binder t i x) t.size (omega (arith, binder_root i x h)))

  pub new_name-step : (j i x : ℕ) → j < t.size → mem i (operands (t.node j)) ≡ true
      → new_name t i x ≡ pick (is_block (t.node j) && mem x (bound (t.node j))) (first_name t j + place x (bound (t.node j))) (new_name t j x)
  unfolding new_name
  new_name-step j i x h m = go (look (covers t j x)) (binder_step j i x h m)
    where
      go : Is (covers t j x) → binder t i x ≡ pick (covers t j x) j (binder t j x)
          → new_name t i x ≡ pick (covers t j x) (first_name t j + place x (bound (t.node j))) (new_name t j x)
      go (is_true e) q =
          let r : binder t i x ≡ j = q ∙ pick_yes _ _ _ e in
          rw r (pick_yes _ _ _ (lt-ltb j t.size h)) ∙ sym (pick_yes _ _ _ e)
      go (is_false e) q =
          let r : binder t i x ≡ binder t j x = q ∙ pick_no _ _ _ e in
          rw r refl ∙ sym (pick_no _ _ _ e)

  pub root_outer : inner t (t.size - 1) ≡ false
  root_outer = inner_root t (t.size - 1) (omega (arith, tree.nonempty))

  -- levels
  pub level_root : (i : ℕ) → suc i ≡ t.size → level t i ≡ 0
  unfolding level
  level_root i h = rw (path_root i h) (how_many-one (inner t) i ∙ pick_no _ _ _ (inner_root t i h))

  pub level_step : (i : ℕ) → suc i < t.size → level t i ≡ pick (inner t i) 1 0 + level t (parent t i)
  unfolding level
  level_step i h = rw (path_step i h) (how_many-cons (inner t) i (path t (parent t i)))

  level_inner : (i : ℕ) → suc i < t.size → inner t i ≡ true → level t i ≡ suc (level t (parent t i))
  level_inner i h e = omega (arith, level_step i h, pick_yes {A = ℕ} (inner t i) 1 0 e)

  level_other : (i : ℕ) → suc i < t.size → inner t i ≡ false → level t i ≡ level t (parent t i)
  level_other i h e = omega (arith, level_step i h, pick_no {A = ℕ} (inner t i) 1 0 e)

  pub inner_lt : (i : ℕ) → i < t.size → inner t i ≡ true → suc i < t.size
  unfolding inner
  inner_lt i k h =
      let n = eqb-false (suc i) t.size (not-true _ (and_right (is_block (t.node i)) _ h)) in omega arith

  pub inner_level : (i : ℕ) → i < t.size → inner t i ≡ true → 0 < level t i
  inner_level i k h = omega (arith, level_inner i (inner_lt i k h) h)

  pub above_level_le : (b i : ℕ) → i < t.size → above t b i ≡ true → level t b ≤ level t i
  above_level_le b =
      above_climb (λ i. level t b ≤ level t i) b
      (λ i h e. omega (arith, level_step i h, ap (level t) e))
      (λ i h a r. omega (arith, level_step i h))

  -- an inner block is deeper than what stands above it
  pub above_level : (b i : ℕ) → i < t.size → inner t i ≡ true → above t b i ≡ true → level t b < level t i
  above_level b i k h p =
      let l = inner_lt i k h in
      let e = level_inner i l h in
      above_cases b i l p (λ q. omega (arith, ap (level t) q)) (λ a. omega (arith, above_level_le b (parent t i) (parent_lt i l) a))

  -- each block above a node is at a higher index
  pub level_below : (i : ℕ) → i < t.size → level t i + i < t.size
  level_below =
      climb (λ i. level t i + i < t.size)
      (λ i h. omega (arith, level_root i h))
      (λ i h r. omega (arith, level_step i h, parent_higher i h, pick_le (inner t i) 1))

  pub level_le_levels : (i : ℕ) → i < t.size → level t i ≤ levels t
  unfolding levels
  level_le_levels i h = highest_ge (level t) t.size i h

  -- the blocks of a level
  pub mem-blocks_at : (l i : ℕ) → i < t.size → inner t i ≡ true → level t i ≡ l → mem i (blocks_at t l) ≡ true
  unfolding blocks_at
  mem-blocks_at l i h p e =
      mem-up_to (λ i. pick (inner t i && eqb (level t i) l) (i ∷ []) []) t.size i i h
      (rw (pick_yes _ (i ∷ []) [] (and_both (inner t i) _ p (eq-eqb (level t i) l e))) (mem_head i []))

  blocks_at-from : (l i : ℕ) → mem i (blocks_at t l) ≡ true → (i < t.size) × ((inner t i && eqb (level t i) l) ≡ true)
  unfolding blocks_at
  blocks_at-from l i h =
      let r = mem_up_to_from (λ i. pick (inner t i && eqb (level t i) l) (i ∷ []) []) t.size i h in
      go r.0 (look _) r.1 r.2
    where
      go : (j : ℕ) → Is (inner t j && eqb (level t j) l) → j < t.size → mem i (pick (inner t j && eqb (level t j) l) (j ∷ []) []) ≡ true
          → (i < t.size) × ((inner t i && eqb (level t i) l) ≡ true)
      go j (is_true e) k m =
          let q = eqb-true i j (sym (mem_one i j) ∙ (rw (pick_yes _ (j ∷ []) [] e) at m)) in
          (omega arith, subst (λ k. (inner t k && eqb (level t k) l) ≡ true) (sym q) e)
      go j (is_false e) k m = clash (rw (pick_no _ (j ∷ []) [] e) at m) (mem_nil i)

  pub blocks_at-lt : (l i : ℕ) → mem i (blocks_at t l) ≡ true → i < t.size
  blocks_at-lt l i h = (blocks_at-from l i h).0

  pub blocks_at-inner : (l i : ℕ) → mem i (blocks_at t l) ≡ true → inner t i ≡ true
  blocks_at-inner l i h = and_left _ _ (blocks_at-from l i h).1

  pub blocks_at-level : (l i : ℕ) → mem i (blocks_at t l) ≡ true → level t i ≡ l
  blocks_at-level l i h = eqb-true (level t i) l (and_right (inner t i) _ (blocks_at-from l i h).1)

  -- on a node's path there is a block of every level up to the node's
  reached_step : (l i : ℕ) → suc i < t.size → l ≤ level t i → Is (inner t i) → Is (eqb (level t i) l)
      → (l ≤ level t (parent t i) → (j : ℕ) × (mem j (blocks_at t l) ≡ true)) → (j : ℕ) × (mem j (blocks_at t l) ≡ true)
  reached_step l i h k (is_true e) (is_true q) r = (i, mem-blocks_at l i (omega arith) e (eqb-true _ _ q))
  reached_step l i h k (is_true e) (is_false q) r = r (let n = eqb-false (level t i) l q in omega (arith, level_inner i h e))
  reached_step l i h k (is_false e) q r = r (omega (arith, level_other i h e))

  level_reached : (l : ℕ) → 0 < l → (i : ℕ) → i < t.size → l ≤ level t i → (j : ℕ) × (mem j (blocks_at t l) ≡ true)
  level_reached l p =
      climb (λ i. l ≤ level t i → (j : ℕ) × (mem j (blocks_at t l) ≡ true))
      (λ i h k. absurd (omega (arith, level_root i h)))
      (λ i h r k. reached_step l i h k (look (inner t i)) (look (eqb (level t i) l)) r)

  -- no level is empty
  pub level_nonempty : (l : ℕ) → 0 < l → l ≤ levels t → (i : ℕ) × (mem i (blocks_at t l) ≡ true)
  unfolding levels
  level_nonempty l h k =
      let r = highest_attained (level t) t.size (omega arith) in
      level_reached l h r.0 r.1 (omega (arith, r.2))

  -- the body of a root that is a block is the node before it
  pub root_body : (i : ℕ) → suc i ≡ t.size → is_block (t.node i) ≡ true → body_of (t.node i) ≡ kept t - 1
  unfolding kept
  root_body i h b =
      let l = tree.lower i (body_of (t.node i)) (omega arith) (body_named (t.node i) b) in
      let s : suc (i - 1) < t.size = omega arith in
      let p : parent t (i - 1) ≡ i = omega (arith, parent_lt (i - 1) s, parent_higher (i - 1) s) in
      let m = subst (λ j. mem (i - 1) (operands (t.node j)) ≡ true) p (parent_names (i - 1) s) in
      let e = body_only (t.node i) (i - 1) b m in
      let r : t.size - 1 ≡ i = omega arith in
      let k = pick_yes {A = ℕ} (is_block (t.node (t.size - 1))) 1 0 (subst (λ j. is_block (t.node j) ≡ true) (sym r) b) in omega arith

  pub kept_positive : 0 < kept t
  unfolding kept
  kept_positive = go (t.size - 1) (look _) (omega (arith, tree.nonempty))
    where
      go : (i : ℕ) → Is (is_block (t.node i)) → suc i ≡ t.size → 0 < t.size - pick (is_block (t.node i)) 1 0
      go i (is_true e) h =
          let l = tree.lower i (body_of (t.node i)) (omega arith) (body_named (t.node i) e) in
          omega (arith, pick_yes {A = ℕ} (is_block (t.node i)) 1 0 e)
      go i (is_false e) h = omega (arith, pick_no {A = ℕ} (is_block (t.node i)) 1 0 e)

  path_blocks : (i : ℕ) → i < t.size → how_many (λ j. is_block (t.node j)) (path t i) ≡ level t i + pick (is_block (t.node (t.size - 1))) 1 0
  path_blocks =
      climb (λ i. how_many (λ j. is_block (t.node j)) (path t i) ≡ level t i + pick (is_block (t.node (t.size - 1))) 1 0)
      (λ i h.
      let e : t.size - 1 ≡ i = omega arith in
      rw (path_root i h, e) (omega (arith, how_many-one (λ j. is_block (t.node j)) i, level_root i h)))
      (λ i h r.
      rw (path_step i h)
      (omega (arith, how_many-cons (λ j. is_block (t.node j)) i (path t (parent t i)), level_step i h, ap (λ b. pick {A = ℕ} b 1 0) (inner_is t i h))))

  -- the depth counts the root too, if it is a block
  pub depth_levels : depth t ≡ levels t + pick (is_block (t.node (t.size - 1))) 1 0
  unfolding depth levels
  depth_levels =
      highest_shift (λ i. how_many (λ j. is_block (t.node j)) (path t i)) (level t) t.size _ tree.nonempty path_blocks
