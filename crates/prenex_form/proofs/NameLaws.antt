-- The names of a prenex form: three ranges above the highest number, one after the other, in which no two blocks share a name.
-- Assumes nothing.
use mathlib.Core.Path.{◌≡◌, refl, ap, subst}
use mathlib.Core.Bool.{true, false, not, ◌&&◌, ◌||◌}
use mathlib.Core.List.{List, [], ◌∷◌}
use Prim.Native.Nat.{ℕ, suc, ◌+◌, ◌≤◌, ◌<◌, max}
use native.Mathlib.Omega.{arith}
use lib.Dec.{eqb, ltb}
use lib.ListN.{length, get_or}
use borrow.Author.Tests.{lt-ltb, le-ltb, eqb-true, ne_eqb}
use Rattle.lists.specs.Choice.{pick, pick_yes, pick_no, Is, is_true, is_false, look, clash, and_left, and_right, and_both}
use Rattle.lists.specs.Members.{mem, place, distinct, maximum}
use Rattle.lists.specs.Parts.{sum}
use Rattle.lists.proofs.Search.{lowest_holds}
use Rattle.lists.proofs.Members.{place_lt}
use Rattle.lists.proofs.Parts.{length_numbers, get_or-numbers, mem_numbers, numbers_from, numbers_below, distinct_numbers, sum_cong, sum_mono, sum_grows, highest_ge, pick_le}
use Rattle.formula.specs.Node.{Node, constant, variable, negation, operator, block, Table, is_block, bound}
use Rattle.formula.specs.Tree.{count, bound_below}
use Rattle.prenex_form.specs.Scope.{covers, binder, inner, above}
use Rattle.prenex_form.specs.Names.{highest_at, highest_number, bound_count, first_name, new_names, new_name, inner_bound_below, inner_below, copies, definition_variable}

maximum_ge : (x : ℕ) (xs : List ℕ) → mem x xs ≡ true → x ≤ maximum xs
unfolding maximum mem
maximum_ge x [] m = clash m refl
maximum_ge x (y ∷ ys) m = go (look (eqb x y)) m (maximum_ge x ys)
  where
    go : Is (eqb x y) → (eqb x y || mem x ys) ≡ true → (mem x ys ≡ true → x ≤ maximum ys) → x ≤ max y (maximum ys)
    go (is_true e) m next = let s : x ≡ y = eqb-true x y e in omega arith
    go (is_false e) m next = let l : x ≤ maximum ys = next (rw e at m) in omega arith

-- a covered entry is at most the highest number at its node
entry_le : (nd : Node) (x : ℕ) → mem x (bound nd) ≡ true → x ≤ highest_at nd
unfolding bound highest_at mem
entry_le (constant b) x m = clash m refl
entry_le (variable y) x m = clash m refl
entry_le (negation a) x m = clash m refl
entry_le (operator f a b) x m = clash m refl
entry_le (block q xs a) x m = maximum_ge x xs m

-- a node that is no block binds nothing
pub binds_nothing : (nd : Node) → is_block nd ≡ false → bound nd ≡ []
unfolding is_block bound
binds_nothing (constant b) h = refl
binds_nothing (variable y) h = refl
binds_nothing (negation a) h = refl
binds_nothing (operator f a b) h = refl
binds_nothing (block q xs a) h = clash refl h

pub none_bound : (nd : Node) → is_block nd ≡ false → length (bound nd) ≡ 0
none_bound nd h = ap length (binds_nothing nd h)

pub binds_block : (nd : Node) → 0 < length (bound nd) → is_block nd ≡ true
binds_block nd h = go (look (is_block nd))
  where
    go : Is (is_block nd) → is_block nd ≡ true
    go (is_true e) = e
    go (is_false e) = absurd (omega (arith, none_bound nd e))

-- two numbers neither of which is below the other are equal
same : (i j : ℕ) → (i < j → ⊥) → (j < i → ⊥) → i ≡ j
same i j f g = omega arith

module _ (t : Table) where
  -- the numbers of the input are at most the highest
  at_le : (i : ℕ) → i < t.size → highest_at (t.node i) ≤ highest_number t
  unfolding highest_number
  at_le i h = highest_ge (λ j. highest_at (t.node j)) t.size i h

  pub variable_le : (i x : ℕ) → i < t.size → t.node i ≡ variable x → x ≤ highest_number t
  unfolding highest_at
  variable_le i x h e = subst (λ nd. highest_at nd ≤ highest_number t) e (at_le i h)

  pub bound_le : (i x : ℕ) → i < t.size → mem x (bound (t.node i)) ≡ true → x ≤ highest_number t
  bound_le i x h m = omega (arith, entry_le (t.node i) x m, at_le i h)

  -- below the root every block is inner
  inner_count : (i : ℕ) → suc i < t.size → pick (inner t i) (count t i) 0 ≡ count t i
  unfolding count inner
  inner_count i h = go (look (is_block (t.node i)))
    where
      go : Is (is_block (t.node i)) → pick (is_block (t.node i) && not (eqb (suc i) t.size)) (length (bound (t.node i))) 0 ≡ length (bound (t.node i))
      go (is_true b) = pick_yes _ _ _ (and_both _ _ b (ap not (ne_eqb (suc i) t.size (λ e. omega arith))))
      go (is_false b) = let z : length (bound (t.node i)) ≡ 0 = none_bound (t.node i) b in rw (b, z) (pick_no _ _ _ refl)

  pub inner_bound_is_lem : (i : ℕ) → i < t.size → inner_bound_below t i ≡ bound_below t i
  unfolding inner_bound_below bound_below
  inner_bound_is_lem i h = sum_cong (λ j. pick (inner t j) (count t j) 0) (count t) i (λ j l. inner_count j (omega arith))

  pub inner_bound_le_lem : (i : ℕ) → inner_bound_below t i ≤ bound_below t i
  unfolding inner_bound_below bound_below
  inner_bound_le_lem i = sum_mono (λ j. pick (inner t j) (count t j) 0) (count t) i (λ j l. pick_le (inner t j) (count t j))

  pub length-new_names : (i : ℕ) → length (new_names t i) ≡ count t i
  unfolding new_names
  length-new_names i = length_numbers (first_name t i) (count t i)

  pub length_copies : (i : ℕ) → length (copies t i) ≡ count t i
  unfolding copies
  length_copies i = length_numbers _ (count t i)

  -- copies are the new names moved up by q
  pub copies_shift : (i k d : ℕ) → i < t.size → k < count t i → get_or (copies t i) k d ≡ get_or (new_names t i) k d + bound_count t
  unfolding copies new_names first_name
  copies_shift i k d h m =
      omega (
        arith,
        get_or-numbers (highest_number t + bound_count t + 1 + inner_bound_below t i) (count t i) k d m,
        get_or-numbers (highest_number t + 1 + bound_below t i) (count t i) k d m,
        inner_bound_is_lem i h,
      )

  -- the sums up to a node and with it
  bound_step : (i j : ℕ) → i < j → bound_below t i + count t i ≤ bound_below t j
  unfolding bound_below sum
  bound_step i j h = sum_grows (count t) (suc i) j h

  inner_bound_step : (i j : ℕ) → inner t i ≡ true → i < j → inner_bound_below t i + count t i ≤ inner_bound_below t j
  unfolding inner_bound_below sum
  inner_bound_step i j n h =
      omega (arith, sum_grows (λ j. pick (inner t j) (count t j) 0) (suc i) j h, pick_yes {A = ℕ} (inner t i) (count t i) 0 n)

  inner_step : (i j : ℕ) → inner t i ≡ true → i < j → inner_below t i < inner_below t j
  unfolding inner_below sum
  inner_step i j n h =
      omega (arith, sum_grows (λ j. pick (inner t j) 1 0) (suc i) j h, pick_yes {A = ℕ} (inner t i) 1 0 n)

  -- where the names of block i lie
  new_names-from : (i x : ℕ) → mem x (new_names t i) ≡ true → highest_number t + 1 + bound_below t i ≤ x
  unfolding new_names first_name
  new_names-from i x m = numbers_from _ (count t i) x m

  new_names_to : (i x : ℕ) → mem x (new_names t i) ≡ true → x < highest_number t + 1 + bound_below t i + count t i
  unfolding new_names first_name
  new_names_to i x m = numbers_below _ (count t i) x m

  copies_from : (i x : ℕ) → mem x (copies t i) ≡ true → highest_number t + bound_count t + 1 + inner_bound_below t i ≤ x
  unfolding copies
  copies_from i x m = numbers_from _ (count t i) x m

  copies_to : (i x : ℕ) → mem x (copies t i) ≡ true → x < highest_number t + bound_count t + 1 + inner_bound_below t i + count t i
  unfolding copies
  copies_to i x m = numbers_below _ (count t i) x m

  -- the three ranges
  pub new_names-above : (i x : ℕ) → mem x (new_names t i) ≡ true → highest_number t < x
  new_names-above i x m = omega (arith, new_names-from i x m)

  pub new_names-le : (i x : ℕ) → i < t.size → mem x (new_names t i) ≡ true → x ≤ highest_number t + bound_count t
  unfolding bound_count
  new_names-le i x h m = omega (arith, new_names_to i x m, bound_step i t.size h)

  pub copies_above : (i x : ℕ) → mem x (copies t i) ≡ true → highest_number t + bound_count t < x
  copies_above i x m = omega (arith, copies_from i x m)

  pub copies_le : (i x : ℕ) → i < t.size → inner t i ≡ true → mem x (copies t i) ≡ true → x ≤ highest_number t + bound_count t + inner_bound_below t t.size
  copies_le i x h n m = omega (arith, copies_to i x m, inner_bound_step i t.size n h)

  pub definition_above : (i : ℕ) → highest_number t + bound_count t + inner_bound_below t t.size < definition_variable t i
  unfolding definition_variable
  definition_above i = omega arith

  pub definition_le : (i : ℕ) → i < t.size → inner t i ≡ true
      → definition_variable t i ≤ highest_number t + bound_count t + inner_bound_below t t.size + inner_below t t.size
  unfolding definition_variable
  definition_le i h n = omega (arith, inner_step i t.size n h)

  -- no two blocks share a name
  pub new_names_apart : (i j x : ℕ) → mem x (new_names t i) ≡ true → mem x (new_names t j) ≡ true → i ≡ j
  new_names_apart i j x m n =
      same i j
      (λ l. omega (arith, new_names_to i x m, new_names-from j x n, bound_step i j l))
      (λ l. omega (arith, new_names_to j x n, new_names-from i x m, bound_step j i l))

  pub copies_apart : (i j x : ℕ) → inner t i ≡ true → inner t j ≡ true → mem x (copies t i) ≡ true → mem x (copies t j) ≡ true → i ≡ j
  copies_apart i j x p q m n =
      same i j
      (λ l. omega (arith, copies_to i x m, copies_from j x n, inner_bound_step i j p l))
      (λ l. omega (arith, copies_to j x n, copies_from i x m, inner_bound_step j i q l))

  pub definition_apart : (i j : ℕ) → inner t i ≡ true → inner t j ≡ true → definition_variable t i ≡ definition_variable t j → i ≡ j
  unfolding definition_variable
  definition_apart i j p q e =
      same i j (λ l. omega (arith, e, inner_step i j p l)) (λ l. omega (arith, e, inner_step j i q l))

  pub distinct-new_names : (i : ℕ) → distinct (new_names t i) ≡ true
  unfolding new_names
  distinct-new_names i = distinct_numbers (first_name t i) (count t i)

  pub distinct_copies : (i : ℕ) → distinct (copies t i) ≡ true
  unfolding copies
  distinct_copies i = distinct_numbers _ (count t i)

  -- the new name of a number is the number itself, or one of its binder's
  pub new_name-free : (i x : ℕ) → binder t i x ≡ t.size → new_name t i x ≡ x
  unfolding new_name
  new_name-free i x e = pick_no _ _ _ (le-ltb (binder t i x) t.size (omega arith))

  pub binder_covers : (i x : ℕ) → binder t i x < t.size → mem x (bound (t.node (binder t i x))) ≡ true
  unfolding binder
  binder_covers i x h =
      let b = binder t i x in
      and_right (is_block (t.node b)) (mem x (bound (t.node b)))
      (and_left (covers t b x) (above t b i) (lowest_holds (λ b. covers t b x && above t b i) t.size h))

  pub new_name-bound : (i x : ℕ) → binder t i x < t.size → mem (new_name t i x) (new_names t (binder t i x)) ≡ true
  unfolding new_name new_names count
  new_name-bound i x h =
      let b = binder t i x in
      let l : place x (bound (t.node b)) < length (bound (t.node b)) = place_lt x (bound (t.node b)) (binder_covers i x h) in
      rw (pick_yes (ltb b t.size) (first_name t b + place x (bound (t.node b))) x (lt-ltb b t.size h))
      (mem_numbers (first_name t b) (length (bound (t.node b))) (first_name t b + place x (bound (t.node b))) (omega arith) (omega arith))
