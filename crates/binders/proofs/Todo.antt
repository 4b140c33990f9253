-- Laws of `todo`: what the walk comes by, one node after the other, and that it comes by every variable node and block.
-- Assumes nothing.
use mathlib.Core.Path.{◌≡◌, refl, sym, ◌∙◌, ap, subst}
use mathlib.Core.Bool.{Bool, true, false}
use mathlib.Core.List.{List, [], ◌∷◌, ◌++◌, append_assoc, append-nil}
use Prim.Native.Nat.{ℕ, zero, suc, ◌+◌, ◌≤◌, ◌<◌}
use native.Mathlib.Omega.{arith}
use lib.Dec.{ltb}
use borrow.Author.Tests.{ltb-true, ltb-false, lt-ltb, le-ltb, eqb-true, eq-eqb}
use Rattle.lists.specs.Choice.{pick, pick_yes, pick_no, Is, is_true, is_false, look, and_right, and_both}
use Rattle.lists.specs.Members.{mem}
use Rattle.lists.proofs.Members.{mem_head, mem_tail, mem_left}
use Rattle.lists.proofs.Parts.{up_to_cong, mem-up_to}
use Rattle.formula.specs.Node.{Table, is_block}
use Rattle.formula.specs.Tree.{Tree}
use Rattle.arrays.specs.Link.{link}
use Rattle.arrays.specs.Chains.{between}
use Rattle.arrays.specs.Held.{enclosing, is_member, member}
use Rattle.arrays.proofs.Link.{link_here, link_some}
use Rattle.arrays.proofs.Chains.{between_all, between_end, passing_none, passing_some}
use Rattle.arrays.proofs.Enclosing.{enclosing_le, enclosing_higher, enclosing_block}
use Rattle.arrays.proofs.Members.{block_member}
use Rattle.binders.specs.declared.Place.{Place}
use Rattle.binders.specs.Walk.{within, rest, around, from, todo}

pick_same : {A : Type 0} (b : Bool) (x y z : A) → (b ≡ true → x ≡ y) → pick b x z ≡ pick b y z
unfolding pick
pick_same true x y z h = h refl
pick_same false x y z h = refl

between_cong : (g h : ℕ → List ℕ) (n : ℕ) → ((j : ℕ) → j < n → g j ≡ h j) → between g 0 n ≡ between h 0 n
between_cong g h n e = between_all g n ∙ up_to_cong g h n e ∙ sym (between_all h n)

regroup : (i : ℕ) (xs ys zs : List ℕ) → ((i ∷ (xs ++ (i ∷ []))) ++ ys) ++ zs ≡ i ∷ (xs ++ (i ∷ (ys ++ zs)))
regroup i xs ys zs = simp append_assoc

module _ (t : Table) (tree : Tree t) where
  -- what is right in a block's scope stands below it
  member_lower : (b j : ℕ) → j < t.size → member t b j ≡ true → j < b
  member_lower b j h e =
      omega (arith, eqb-true (enclosing t j) b (and_right (is_member (t.node j)) _ e), enclosing_higher t tree j h)

  -- any two bounds that suffice

  within_fuel : (f g i : ℕ) → i < f → i < g → within f t i ≡ within g t i
  unfolding within
  within_fuel zero g i h k = absurd (omega arith)
  within_fuel (suc f) zero i h k = absurd (omega arith)
  within_fuel (suc f) (suc g) i h k =
      ap (λ (l : List ℕ). pick (is_block (t.node i)) (i ∷ (l ++ (i ∷ []))) (i ∷ []))
      (between_cong (λ j. pick (member t i j) (within f t j) []) (λ j. pick (member t i j) (within g t j) []) t.size (λ j l. pick_same (member t i j) (within f t j) (within g t j) [] (λ e. let m = member_lower i j l e in within_fuel f g j (omega arith) (omega arith))))

  around_fuel : (f g b : ℕ) → t.size ≤ b + f → t.size ≤ b + g → around f t b ≡ around g t b
  unfolding around
  around_fuel zero zero b h k = refl
  around_fuel zero (suc g) b h k = sym (pick_no _ _ _ (le-ltb b t.size (omega arith)))
  around_fuel (suc f) zero b h k = pick_no _ _ _ (le-ltb b t.size (omega arith))
  around_fuel (suc f) (suc g) b h k =
      pick_same (ltb b t.size) _ _ [] (λ e.
      let l = enclosing_higher t tree b (ltb-true b t.size e) in
      ap (λ (r : List ℕ). b ∷ (rest t (enclosing t b) (suc b) ++ r)) (around_fuel f g (enclosing t b) (omega arith) (omega arith)))

  pub within_once : (i : ℕ) → i < t.size → is_block (t.node i) ≡ false → within t.size t i ≡ i ∷ []
  unfolding within
  within_once i h e = within_fuel t.size (suc t.size) i h (omega arith) ∙ pick_no _ _ _ e

  pub within_block : (i : ℕ) → i < t.size → is_block (t.node i) ≡ true → within t.size t i ≡ i ∷ (rest t i 0 ++ (i ∷ []))
  unfolding within rest
  within_block i h e = within_fuel t.size (suc t.size) i h (omega arith) ∙ pick_yes _ _ _ e

  within_self : (i : ℕ) → i < t.size → mem i (within t.size t i) ≡ true
  within_self i h = go (look (is_block (t.node i)))
    where
      go : Is (is_block (t.node i)) → mem i (within t.size t i) ≡ true
      go (is_true e) = rw (within_block i h e) (mem_head i _)
      go (is_false e) = rw (within_once i h e) (mem_head i _)

  around_step : (b : ℕ) → b < t.size
      → around t.size t b ≡ b ∷ (rest t (enclosing t b) (suc b) ++ around t.size t (enclosing t b))
  unfolding around
  around_step b h =
      around_fuel t.size (suc t.size) b (omega arith) (omega arith) ∙ pick_yes _ _ _ (lt-ltb b t.size h)

  around_end : (b : ℕ) → t.size ≤ b → around t.size t b ≡ []
  unfolding around
  around_end b h = around_fuel t.size 0 b (omega arith) (omega arith)

  rest_end : (b k : ℕ) → t.size ≤ k → rest t b k ≡ []
  unfolding rest
  rest_end b k h = between_end (λ j. pick (member t b j) (within t.size t j) []) k t.size h

  rest_none : (b j : ℕ) → link (member t b) j t.size ≡ 0 → rest t b j ≡ []
  unfolding rest
  rest_none b j e = passing_none (member t b) (within t.size t) j t.size e

  rest_some : (b j i : ℕ) → link (member t b) j t.size ≡ suc i → rest t b j ≡ within t.size t i ++ rest t b (suc i)
  unfolding rest
  rest_some b j i e = passing_some (member t b) (within t.size t) j t.size i e

  rest_here : (b i : ℕ) → i < t.size → member t b i ≡ true → rest t b i ≡ within t.size t i ++ rest t b (suc i)
  rest_here b i h e = rest_some b i i (link_here (member t b) i t.size h e)

  -- a link stands for where it was looked for
  rest_link : (b j k : ℕ) → k ≡ link (member t b) j t.size → rest t b (from t k) ≡ rest t b j
  unfolding from
  rest_link b j zero e = rest_end b t.size (omega arith) ∙ sym (rest_none b j (sym e))
  rest_link b j (suc i) e =
      let r = link_some (member t b) j t.size i (sym e) in
      rest_here b i r.below r.passes ∙ sym (rest_some b j i (sym e))

  -- Each step of the walk drops the first of what it comes by.

  module _ (p q : Place) where
    -- at the end of a block's scope: it leaves the block
    pub todo_leave : p.link ≡ 0 → p.scope < t.size → q.scope ≡ enclosing t p.scope
        → q.link ≡ link (member t q.scope) (suc p.scope) t.size → todo t p ≡ p.scope ∷ todo t q
    unfolding todo from
    todo_leave z h s l =
        ap (λ (k : ℕ). rest t p.scope (from t k) ++ around t.size t p.scope) z
        ∙ ap (λ (r : List ℕ). r ++ around t.size t p.scope) (rest_end p.scope t.size (omega arith)) ∙ around_step p.scope h
        ∙ ap (λ (b : ℕ). p.scope ∷ (rest t b (suc p.scope) ++ around t.size t b)) (sym s)
        ∙ ap (λ (r : List ℕ). p.scope ∷ (r ++ around t.size t q.scope)) (sym (rest_link q.scope (suc p.scope) q.link l))

    module _ (i : ℕ) (at : p.link ≡ suc i) (h : i < t.size) (m : member t p.scope i ≡ true) where
      todo_here : todo t p ≡ (within t.size t i ++ rest t p.scope (suc i)) ++ around t.size t p.scope
      unfolding todo from
      todo_here =
          ap (λ (k : ℕ). rest t p.scope (from t k) ++ around t.size t p.scope) at
          ∙ ap (λ (r : List ℕ). r ++ around t.size t p.scope) (rest_here p.scope i h m)

      -- past a node that is no block
      pub todo_pass : is_block (t.node i) ≡ false → q.scope ≡ p.scope → q.link ≡ link (member t q.scope) (suc i) t.size
          → todo t p ≡ i ∷ todo t q
      unfolding todo
      todo_pass e s l =
          todo_here
          ∙ ap (λ (r : List ℕ). (r ++ rest t p.scope (suc i)) ++ around t.size t p.scope) (within_once i h e)
          ∙ ap (λ (b : ℕ). i ∷ (rest t b (suc i) ++ around t.size t b)) (sym s)
          ∙ ap (λ (r : List ℕ). i ∷ (r ++ around t.size t q.scope)) (sym (rest_link q.scope (suc i) q.link l))

      enclosed : enclosing t i ≡ p.scope
      enclosed = eqb-true _ _ (and_right (is_member (t.node i)) _ m)

      -- into a block
      pub todo_enter : is_block (t.node i) ≡ true → q.scope ≡ i → q.link ≡ link (member t q.scope) 0 t.size → todo t p ≡ i ∷ todo t q
      unfolding todo
      todo_enter e s l =
          let after : around t.size t i ≡ i ∷ (rest t p.scope (suc i) ++ around t.size t p.scope) =
          around_step i h ∙ ap (λ (b : ℕ). i ∷ (rest t b (suc i) ++ around t.size t b)) enclosed in
          todo_here
          ∙ ap (λ (r : List ℕ). (r ++ rest t p.scope (suc i)) ++ around t.size t p.scope) (within_block i h e)
          ∙ regroup i (rest t i 0) (rest t p.scope (suc i)) (around t.size t p.scope)
          ∙ ap (λ (r : List ℕ). i ∷ (rest t i 0 ++ r)) (sym after)
          ∙ ap (λ (b : ℕ). i ∷ (rest t b 0 ++ around t.size t b)) (sym s)
          ∙ ap (λ (r : List ℕ). i ∷ (r ++ around t.size t q.scope)) (sym (rest_link q.scope 0 q.link l))

  -- The walk begins with everything and ends with nothing.

  mem_rest : (b p i : ℕ) → p < t.size → member t b p ≡ true → mem i (within t.size t p) ≡ true → mem i (rest t b 0) ≡ true
  unfolding rest
  mem_rest b p i h e m =
      let g : ℕ → List ℕ = λ j. pick (member t b j) (within t.size t j) [] in
      let y : mem i (pick (member t b p) (within t.size t p) []) ≡ true = subst (λ l. mem i l ≡ true) (sym (pick_yes _ _ _ e)) m in
      subst (λ l. mem i l ≡ true) (sym (between_all g t.size)) (mem-up_to g t.size p i h y)

  -- one scope further out
  outward : (p i : ℕ) → p < t.size → is_member (t.node p) ≡ true → mem i (within t.size t p) ≡ true → Is (ltb (enclosing t p) t.size)
      → (enclosing t p < t.size → is_member (t.node (enclosing t p)) ≡ true → mem i (within t.size t (enclosing t p)) ≡ true → mem i (rest t t.size 0) ≡ true)
      → mem i (rest t t.size 0) ≡ true
  outward p i h e m (is_true k) go =
      let l = ltb-true (enclosing t p) t.size k in
      let b = enclosing_block t tree p l in
      let r : mem i (rest t (enclosing t p) 0) ≡ true = mem_rest (enclosing t p) p i h (and_both _ _ e (eq-eqb (enclosing t p) (enclosing t p) refl)) m in
      go l (block_member _ b) (rw (within_block (enclosing t p) l b) (mem_tail i (enclosing t p) _ (mem_left i (rest t (enclosing t p) 0) (enclosing t p ∷ []) r)))
  outward p i h e m (is_false k) go =
      let q : enclosing t p ≡ t.size = omega (arith, ltb-false (enclosing t p) t.size k, enclosing_le t tree p) in
      mem_rest t.size p i h (and_both _ _ e (eq-eqb _ _ q)) m

  climb : (n p i : ℕ) → t.size ≤ p + n → p < t.size → is_member (t.node p) ≡ true → mem i (within t.size t p) ≡ true
      → mem i (rest t t.size 0) ≡ true
  climb zero p i f h e m = absurd (omega arith)
  climb (suc n) p i f h e m =
      outward p i h e m (look _) (λ l b r. let k = enclosing_higher t tree p h in climb n (enclosing t p) i (omega arith) l b r)

  pub todo_all : (p : Place) (i : ℕ) → p.scope ≡ t.size → p.link ≡ link (member t p.scope) 0 t.size → i < t.size
      → is_member (t.node i) ≡ true → mem i (todo t p) ≡ true
  unfolding todo
  todo_all p i s l h e =
      let m : mem i (rest t p.scope 0) ≡ true =
      subst (λ b. mem i (rest t b 0) ≡ true) (sym s) (climb t.size i i (omega arith) h e (within_self i h)) in
      mem_left i _ _ (subst (λ r. mem i r ≡ true) (sym (rest_link p.scope 0 p.link l)) m)

  pub todo_start : (p : Place) → p.scope ≡ t.size → p.link ≡ link (member t p.scope) 0 t.size → todo t p ≡ rest t t.size 0
  unfolding todo
  todo_start p s l =
      ap (λ (r : List ℕ). r ++ around t.size t p.scope) (rest_link p.scope 0 p.link l)
      ∙ ap (λ (r : List ℕ). rest t p.scope 0 ++ r) (around_end p.scope (omega arith))
      ∙ append-nil (rest t p.scope 0) ∙ ap (λ (b : ℕ). rest t b 0) s

  pub todo_end : (p : Place) → p.scope ≡ t.size → p.link ≡ 0 → todo t p ≡ []
  unfolding todo from
  todo_end p s z =
      ap (λ (k : ℕ). rest t p.scope (from t k) ++ around t.size t p.scope) z
      ∙ ap (λ (r : List ℕ). r ++ around t.size t p.scope) (rest_end p.scope t.size (omega arith))
      ∙ around_end p.scope (omega arith)
