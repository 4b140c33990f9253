-- How many nodes are written, and that they are few.
-- Assumes nothing.
use mathlib.Core.Path.{◌≡◌, refl, sym, ◌∙◌, ap, ap₂}
use mathlib.Core.Bool.{Bool, true, false, ◌&&◌, and-true}
use mathlib.Core.List.{List, [], ◌∷◌, ◌++◌}
use Prim.Native.Nat.{ℕ, zero, suc, ◌+◌, ◌*◌, ◌≤◌, ◌<◌}
use native.Mathlib.Omega.{arith}
use native.Mathlib.Nat.{not-suc-le-zero}
use lib.Dec.{eqb, leb}
use lib.ListN.{length, length-append}
use borrow.Author.Tests.{eqb-true, eqb-false, leb-true, leb-false, le-leb, lt-leb}
use Rattle.lists.specs.Choice.{pick, pick_yes, pick_no, Is, is_true, is_false, look}
use Rattle.lists.specs.Parts.{up_to, sum}
use Rattle.lists.proofs.Members.{mem_head, mem_tail}
use Rattle.lists.proofs.Parts.{sum_cong, sum_mono, sum_add, sum_zero}
use Rattle.formula.specs.Node.{Table, is_block}
use Rattle.formula.specs.Tree.{Tree, NoEmptyBlocks, count, bound_below}
use Rattle.prenex_form.specs.Scope.{inner, level}
use Rattle.prenex_form.specs.Names.{bound_count}
use Rattle.prenex_form.specs.Levels.{blocks_at, levels}
use Rattle.prenex_form.specs.Matrix.{kept, constraint, further, constraints, level_nodes, nodes_to, prenex_nodes}
use Rattle.prenex_form.specs.Prefix.{block_count}
use Rattle.prenex_form.specs.Sizes.{added_by}
use Rattle.prenex_form.proofs.Paths.{kept_le, inner_level, level_le_levels, inner_block}
use Rattle.prenex_form.proofs.PrefixNames.{block_count-le}
use Rattle.prenex_form.proofs.Written.{length_constraint, length-first_nodes, level_some, AllFilled, level_filled}

-- the sum of g over a list
unfoldable pub sum_of : (ℕ → ℕ) → List ℕ → ℕ
sum_of g [] = 0
sum_of g (i ∷ is) = g i + sum_of g is

sum_of_append : (g : ℕ → ℕ) (is js : List ℕ) → sum_of g (is ++ js) ≡ sum_of g is + sum_of g js
unfolding sum_of
sum_of_append g [] js = omega arith
sum_of_append g (i ∷ is) js = omega (arith, sum_of_append g is js)

sum_of_pick : (g : ℕ → ℕ) (b : Bool) (i : ℕ) → sum_of g (pick b (i ∷ []) []) ≡ pick b (g i) 0
unfolding sum_of pick
sum_of_pick g true i = omega arith
sum_of_pick g false i = refl

-- over the numbers below n that pass a test
sum_of_up_to : (g : ℕ → ℕ) (p : ℕ → Bool) (n : ℕ) → sum_of g (up_to (λ i. pick (p i) (i ∷ []) []) n) ≡ sum (λ i. pick (p i) (g i) 0) n
unfolding up_to sum sum_of
sum_of_up_to g p zero = refl
sum_of_up_to g p (suc n) =
    sum_of_append g (up_to (λ i. pick (p i) (i ∷ []) []) n) (pick (p n) (n ∷ []) []) ∙ ap₂ ◌+◌ (sum_of_up_to g p n) (sum_of_pick g (p n) n)

-- one level more
level_more : (b : Bool) (l j x : ℕ) → Is (leb l j) → Is (eqb l (suc j))
    → pick (b && leb l (suc j)) x 0 ≡ pick (b && leb l j) x 0 + pick (b && eqb l (suc j)) x 0
unfolding pick
level_more false l j x p q = refl
level_more true l j x (is_true p) (is_true q) = let h = leb-true l j p in let e = eqb-true l (suc j) q in absurd (omega arith)
level_more true l j x (is_true p) (is_false q) =
    let h = leb-true l j p in rw (p, q, le-leb l (suc j) (omega arith)) (omega arith)
level_more true l j x (is_false p) (is_true q) =
    let e = eqb-true l (suc j) q in rw (p, q, le-leb l (suc j) (omega arith)) (omega arith)
level_more true l j x (is_false p) (is_false q) =
    let h = leb-false l j p in
    let n : l ≡ suc j → ⊥ = eqb-false l (suc j) q in rw (p, q, lt-leb l (suc j) (omega arith)) (omega arith)

-- the blocks of one level
sum_level : (t : Table) (g : ℕ → ℕ) (l : ℕ) → sum_of g (blocks_at t l) ≡ sum (λ i. pick (inner t i && eqb (level t i) l) (g i) 0) t.size
unfolding blocks_at
sum_level t g l = sum_of_up_to g (λ i. inner t i && eqb (level t i) l) t.size

module _ (t : Table) (tree : Tree t) (g : ℕ → ℕ) where
  -- no block has level 0, and each has one of the levels
  level_zero : (i : ℕ) → i < t.size → Is (inner t i) → pick (inner t i && leb (level t i) 0) (g i) 0 ≡ 0
  level_zero i h (is_true e) = pick_no _ _ _ (rw (e, lt-leb (level t i) 0 (inner_level t tree i h e)))
  level_zero i h (is_false e) = pick_no _ _ _ (rw e)

  level_last : (i : ℕ) → i < t.size → pick (inner t i && leb (level t i) (levels t)) (g i) 0 ≡ pick (inner t i) (g i) 0
  level_last i h =
      ap (λ (b : Bool). pick b (g i) 0) (rw (le-leb (level t i) (levels t) (level_le_levels t tree i h)) (and-true (inner t i)))

  -- the blocks of the first j levels
  sum_levels : (j : ℕ) → sum (λ l. sum_of g (blocks_at t (suc l))) j ≡ sum (λ i. pick (inner t i && leb (level t i) j) (g i) 0) t.size
  unfolding sum
  sum_levels zero = sym (sum_cong _ (λ i. 0) t.size (λ i h. level_zero i h (look (inner t i))) ∙ sum_zero (λ i. 0) t.size (λ i h. refl))
  sum_levels (suc j) =
      ap₂ ◌+◌ (sum_levels j) (sum_level t g (suc j))
      ∙ sym (sum_add (λ i. pick (inner t i && leb (level t i) j) (g i) 0) _ t.size)
      ∙ sum_cong _ _ t.size (λ i h. sym (level_more (inner t i) (level t i) j (g i) (look _) (look _)))

  -- level by level, the inner blocks
  pub sum_blocks : sum (λ l. sum_of g (blocks_at t (suc l))) (levels t) ≡ sum (λ i. pick (inner t i) (g i) 0) t.size
  sum_blocks = sum_levels (levels t) ∙ sum_cong _ _ t.size level_last

-- what an inner block adds
abbrev added : Table → ℕ → ℕ
added t i = 4 * count t i + 5

length_further : (t : Table) (is : List ℕ) (s : ℕ) → AllFilled t is → length (further t is s) ≡ sum_of (added t) is
unfolding further sum_of
length_further t [] s filled = refl
length_further t (i ∷ is) s filled =
    let e = s + length (constraint t i s) in
    let l = length_constraint t i s (filled i (mem_head i is)) in
    length-append (constraint t i s) _ ∙ omega (arith, length_further t is (e + 1) (λ j m. filled j (mem_tail j i is m)))

length_constraints : (t : Table) (is : List ℕ) (s : ℕ) → AllFilled t is → 0 < length is
    → suc (length (constraints t is s)) ≡ sum_of (added t) is
unfolding constraints sum_of
length_constraints t [] s filled h = absurd (not-suc-le-zero h)
length_constraints t (i ∷ is) s filled h =
    let e = s + length (constraint t i s) in
    let l = length_constraint t i s (filled i (mem_head i is)) in
    omega (arith, length-append (constraint t i s) (further t is e), length_further t is e (λ j m. filled j (mem_tail j i is m)))

length-level_nodes : (t : Table) (j s : ℕ) → AllFilled t (blocks_at t (suc j)) → 0 < length (blocks_at t (suc j))
    → length (level_nodes t j s) ≡ sum_of (added t) (blocks_at t (suc j))
unfolding level_nodes
length-level_nodes t j s filled h =
    length-append (constraints t (blocks_at t (suc j)) s) _ ∙ omega (arith, length_constraints t (blocks_at t (suc j)) s filled h)

module _ (t : Table) (tree : Tree t) (filled : NoEmptyBlocks t) where
  length-nodes_to : (j : ℕ) → j ≤ levels t → length (nodes_to t j) ≡ kept t + sum (λ l. sum_of (added t) (blocks_at t (suc l))) j
  unfolding nodes_to sum
  length-nodes_to zero h = omega (arith, length-first_nodes t)
  length-nodes_to (suc j) h =
      length-append (nodes_to t j) _
      ∙ omega (
        arith,
        length-nodes_to j (omega arith),
        length-level_nodes t j (length (nodes_to t j)) (level_filled t tree filled (suc j)) (level_some t tree j h),
      )

  pub length-prenex_nodes : length (prenex_nodes t) ≡ kept t + sum (added_by t) t.size
  unfolding prenex_nodes added_by
  length-prenex_nodes = length-nodes_to (levels t) (omega arith) ∙ ap (λ (n : ℕ). kept t + n) (sum_blocks t tree (added t))

sum_times : (f : ℕ → ℕ) (n : ℕ) → (sum (λ i. 5 * f i) n ≡ 5 * sum f n) × (sum (λ i. 4 * f i) n ≡ 4 * sum f n)
unfolding sum
sum_times f zero = (refl, refl)
sum_times f (suc n) = let r = sum_times f n in (omega (arith, r.0), omega (arith, r.1))

added_by-le : (t : Table) (i : ℕ) → Is (inner t i) → added_by t i ≤ 5 * pick (is_block (t.node i)) 1 0 + 4 * count t i
unfolding added_by
added_by-le t i (is_true e) =
    let a : pick (inner t i) (added t i) 0 ≡ added t i = pick_yes _ _ _ e in
    let b : ◌≡◌ {A = ℕ} (pick (is_block (t.node i)) 1 0) 1 = pick_yes _ _ _ (inner_block t i e) in
    omega arith
added_by-le t i (is_false e) = let a : pick (inner t i) (added t i) 0 ≡ 0 = pick_no _ _ _ e in omega arith

-- the bound of document 01
pub nodes_le : (t : Table) → kept t + sum (added_by t) t.size ≤ t.size + 5 * block_count t + 4 * bound_count t
unfolding block_count bound_count bound_below
nodes_le t =
    let b : ℕ → ℕ = λ i. pick (is_block (t.node i)) 1 0 in
    let m = sum_mono (added_by t) (λ i. 5 * b i + 4 * count t i) t.size (λ i h. added_by-le t i (look (inner t i))) in
    let a = sum_add (λ i. 5 * b i) (λ i. 4 * count t i) t.size in
    let x = (sum_times b t.size).0 in
    let y = (sum_times (count t) t.size).1 in
    omega (arith, kept_le t)

pub nodes_few : (t : Table) → t.size ≤ 4096 → bound_count t ≤ 4096 → kept t + sum (added_by t) t.size ≤ 40960
nodes_few t n q = omega (arith, nodes_le t, block_count-le t)
