-- Laws of the steps of the walk: what one node takes off what is left, what there is in all, and that this is linear.
-- Assumes nothing.
use mathlib.Core.Path.{◌≡◌, refl, ◌∙◌, ap}
use mathlib.Core.Bool.{Bool, true, false, ◌&&◌}
use mathlib.Core.List.{List, [], ◌∷◌, ◌++◌}
use Prim.Native.Nat.{ℕ, zero, suc, ◌+◌, ◌*◌, ◌≤◌, ◌<◌}
use native.Mathlib.Omega.{arith}
use lib.Dec.{eqb}
use lib.ListN.{length}
use borrow.Author.Tests.{ne_eqb}
use Rattle.lists.specs.Choice.{pick, pick_yes, pick_no, Is, is_true, is_false, look, clash}
use Rattle.lists.specs.Parts.{up_to, sum}
use Rattle.lists.proofs.Members.{eqb_swap}
use Rattle.lists.proofs.Parts.{sum_cong, sum_add, sum_zero}
use Rattle.lists.proofs.Sums.{sum_single}
use Rattle.formula.specs.Node.{Node, constant, variable, negation, operator, block, Table, is_block, bound}
use Rattle.formula.specs.Tree.{Tree, count, bound_below}
use Rattle.prenex_form.specs.Names.{bound_count}
use Rattle.arrays.specs.Link.{link}
use Rattle.arrays.specs.Held.{enclosing, is_member, member}
use Rattle.arrays.proofs.Chains.{between_all}
use Rattle.arrays.proofs.Enclosing.{enclosing_le, enclosing_block}
use Rattle.arrays.proofs.Members.{block_member}
use Rattle.binders.specs.declared.Place.{Place}
use Rattle.binders.specs.Walk.{within, rest, todo, steps_of, steps_left, steps_at, walk_steps}
use Rattle.binders.proofs.Todo.{within_once, within_block, todo_start, todo_end}

-- a sum added up key by key
sum_by_key : (key f : ℕ → ℕ) (m n : ℕ) → ((j : ℕ) → j < n → key j < m) → sum (λ i. sum (λ j. pick (eqb (key j) i) (f j) 0) n) m ≡ sum f n
unfolding sum
sum_by_key key f m zero h = sum_zero (λ i. 0) m (λ i l. refl)
sum_by_key key f m (suc n) h =
    sum_add (λ i. sum (λ j. pick (eqb (key j) i) (f j) 0) n) (λ i. pick (eqb (key n) i) (f n) 0) m
    ∙ omega (
      arith,
      sum_by_key key f m n (λ j l. h j (omega arith)),
      sum_cong (λ i. pick (eqb (key n) i) (f n) 0) (λ i. pick (eqb i (key n)) (f n) 0) m (λ i l. ap (λ b. pick b (f n) 0) (eqb_swap (key n) i)),
      sum_single (key n) (f n) m (h n (omega arith)),
    )

pick_and : (a b : Bool) (x : ℕ) → pick (a && b) x 0 ≡ pick b (pick a x 0) 0
unfolding pick
pick_and true b x = refl
pick_and false true x = refl
pick_and false false x = refl

-- The steps of one node.

once_at : (nd : Node) → is_block nd ≡ false → pick (is_member nd) (suc (length (bound nd))) 0 ≡ steps_at nd
unfolding is_block is_member bound steps_at pick
once_at (constant b) e = refl
once_at (variable x) e = refl
once_at (negation a) e = refl
once_at (operator f a b) e = refl
once_at (block q xs a) e = clash refl e

twice_at : (nd : Node) → is_block nd ≡ true → steps_at nd ≡ 2 * suc (length (bound nd))
unfolding is_block bound steps_at
twice_at (constant b) e = clash e refl
twice_at (variable x) e = clash e refl
twice_at (negation a) e = clash e refl
twice_at (operator f a b) e = clash e refl
twice_at (block q xs a) e = refl

at_most : (nd : Node) → steps_at nd ≤ 2 * suc (length (bound nd))
unfolding bound steps_at
at_most (constant b) = omega arith
at_most (variable x) = omega arith
at_most (negation a) = omega arith
at_most (operator f a b) = omega arith
at_most (block q xs a) = omega arith

-- The steps are linear in the nodes and bound variables.

module _ (t : Table) where
  below_le : (n : ℕ) → sum (λ i. steps_at (t.node i)) n ≤ 2 * (n + sum (count t) n)
  unfolding sum count
  below_le zero = omega arith
  below_le (suc n) = omega (arith, below_le n, at_most (t.node n))

  pub walk_steps-le : walk_steps t ≤ 2 * (t.size + bound_count t)
  unfolding walk_steps bound_count bound_below
  walk_steps-le = below_le t.size

  -- The steps of lists put together.

  steps_of-append : (is js : List ℕ) → steps_of t (is ++ js) ≡ steps_of t is + steps_of t js
  unfolding steps_of
  steps_of-append [] js = omega arith
  steps_of-append (i ∷ is) js = omega (arith, steps_of-append is js)

  steps_of-up_to : (g : ℕ → List ℕ) (n : ℕ) → steps_of t (up_to g n) ≡ sum (λ j. steps_of t (g j)) n
  unfolding steps_of up_to sum
  steps_of-up_to g zero = refl
  steps_of-up_to g (suc n) = omega (arith, steps_of-append (up_to g n) (g n), steps_of-up_to g n)

  steps_of-pick : (b : Bool) (is : List ℕ) → steps_of t (pick b is []) ≡ pick b (steps_of t is) 0
  unfolding steps_of pick
  steps_of-pick true is = refl
  steps_of-pick false is = refl

  -- The walk comes by node h, and moves its entries.
  pub steps_next : (p q : Place) (h moved : ℕ) → todo t p ≡ h ∷ todo t q → moved ≡ count t h → q.steps ≡ p.steps + 1 + moved
      → (q.steps + steps_left t q ≡ p.steps + steps_left t p) × (p.steps < q.steps)
  unfolding steps_of
  steps_next p q h moved d m s = let e = ap (steps_of t) d in (omega arith, omega arith)

-- At the start all steps are left, at the end none.

module _ (t : Table) (tree : Tree t) where
  -- the steps for a node and all that is in its scope, and 0 for a node that the walk does not come by
  abbrev under : ℕ → ℕ
  under i = pick (is_member (t.node i)) (steps_of t (within t.size t i)) 0

  -- those for all that is in block b's scope
  abbrev inside : ℕ → ℕ
  inside b = sum (λ j. pick (eqb (enclosing t j) b) (under j) 0) t.size

  rest_steps : (b : ℕ) → steps_of t (rest t b 0) ≡ inside b
  unfolding rest
  rest_steps b =
      let g : ℕ → List ℕ = λ j. pick (member t b j) (within t.size t j) [] in
      ap (steps_of t) (between_all g t.size) ∙ steps_of-up_to t g t.size
      ∙ sum_cong (λ j. steps_of t (g j)) (λ j. pick (eqb (enclosing t j) b) (under j) 0) t.size
      (λ j l. steps_of-pick t (member t b j) (within t.size t j) ∙ pick_and (is_member (t.node j)) (eqb (enclosing t j) b) (steps_of t (within t.size t j)))

  -- only a block has a scope
  inside_none : (i : ℕ) → i < t.size → is_block (t.node i) ≡ false → inside i ≡ 0
  inside_none i h e =
      sum_zero (λ j. pick (eqb (enclosing t j) i) (under j) 0) t.size
      (λ j l. pick_no (eqb (enclosing t j) i) (under j) 0 (ne_eqb (enclosing t j) i (λ q.
      let b : is_block (t.node (enclosing t j)) ≡ true = enclosing_block t tree j (omega arith) in
      let c : is_block (t.node i) ≡ true = rw q at b in clash c e)))

  -- a node's own steps, and those for all that is in its scope
  under_is : (i : ℕ) → i < t.size → under i ≡ steps_at (t.node i) + inside i
  unfolding steps_of count
  under_is i h = go (look (is_block (t.node i)))
    where
      go : Is (is_block (t.node i)) → under i ≡ steps_at (t.node i) + inside i
      go (is_true e) =
          let w = ap (steps_of t) (within_block t tree i h e) in
          let a = steps_of-append t (rest t i 0) (i ∷ []) in
          pick_yes _ _ _ (block_member (t.node i) e) ∙ omega (arith, rest_steps i, twice_at (t.node i) e)
      go (is_false e) =
          let w : steps_of t (within t.size t i) ≡ suc (length (bound (t.node i))) = omega (arith, ap (steps_of t) (within_once t tree i h e)) in
          ap (λ (n : ℕ). pick (is_member (t.node i)) n 0) w ∙ omega (arith, once_at (t.node i) e, inside_none i h e)

  -- each node's steps are those of one scope
  all_steps : inside t.size ≡ walk_steps t
  unfolding sum walk_steps
  all_steps =
      omega (
        arith,
        sum_by_key (enclosing t) under (suc t.size) t.size (λ j l. omega (arith, enclosing_le t tree j)),
        sum_cong under (λ i. steps_at (t.node i) + inside i) t.size under_is,
        sum_add (λ i. steps_at (t.node i)) inside t.size,
      )

  pub steps_start : (p : Place) → p.scope ≡ t.size → p.link ≡ link (member t p.scope) 0 t.size → steps_left t p ≡ walk_steps t
  steps_start p s l = ap (steps_of t) (todo_start t tree p s l) ∙ rest_steps t.size ∙ all_steps

  pub steps_end : (p : Place) → p.scope ≡ t.size → p.link ≡ 0 → steps_left t p ≡ 0
  unfolding steps_of
  steps_end p s z = ap (steps_of t) (todo_end t tree p s z)
