-- What the pass over the names tells of a form: which names are free in it, and its first gate.
-- Assumes nothing.
use mathlib.Core.Path.{◌≡◌, refl, sym, ◌∙◌, ap, subst}
use mathlib.Core.Bool.{Bool, true, not, ◌&&◌}
use mathlib.Core.List.{List, []}
use Prim.Native.Nat.{ℕ, ◌+◌, ◌<◌, ◌≤◌, max}
use native.Mathlib.Omega.{arith}
use lib.Dec.{leb, ltb}
use lib.ListN.{length, get_or}
use borrow.Author.Tests.{eqb-true, eq-eqb, leb-true, ltb-true, ltb-false, lt-ltb}
use Rattle.lists.specs.Choice.{Is, is_true, is_false, look, clash, and_left, and_right, and_both, same_test}
use Rattle.lists.specs.Search.{lowest, some_below}
use Rattle.lists.specs.Members.{maximum}
use Rattle.lists.proofs.Search.{lowest_holds, lowest_least}
use Rattle.lists.proofs.Members.{all_mem, maximum_ge, maximum_le}
use Rattle.lists.proofs.Parts.{highest_ge, highest_attained}
use Rattle.formula.specs.Node.{Node, constant, variable, negation, operator, block, Table}
use Rattle.formula.specs.Words.{node_count, table_of}
use Rattle.formula.specs.Truth.{digit, free}
use Rattle.formula.specs.Form.{Block, blocks_of, binds, form_free}
use Rattle.formula.specs.FreeVariables.{stands_at, number_at, highest_variable}
use Rattle.formula.proofs.FreeVariables.{free_occurs}
use Rattle.acceptance.specs.Verdict.{is_number_to}
use Rattle.acceptance.proofs.Matrix.{MatrixNode, matrix_node, no_block}
use Rattle.form_check.specs.Accepted.{AcceptedForm, prefix_names}
use Rattle.form_check.proofs.Flags.{binds_names}
use Rattle.name_flags.specs.Flags.{FreeFlags}
use Rattle.name_flags.proofs.Free.{last_free, free_flags}
use Rattle.qdimacs_form.specs.Clauses.{first_gate}
use Rattle.qdimacs_form.proofs.Bound.{stands_free}
use Rattle.qdimacs_numbers.specs.Numbering.{stands_below, FlaggedBelow}

-- The number stands at a node that is this variable, and at no other.
stands_is : (x : ℕ) (nd : Node) → stands_at x nd ≡ true → nd ≡ variable x
unfolding stands_at
stands_is x (constant b) e = clash e refl
stands_is x (variable y) e = ap variable (sym (eqb-true x y e))
stands_is x (negation a) e = clash e refl
stands_is x (operator f a b) e = clash e refl
stands_is x (block q xs a) e = clash e refl

is_stands : (x : ℕ) (nd : Node) → nd ≡ variable x → stands_at x nd ≡ true
unfolding stands_at
is_stands x nd e = ap (stands_at x) e ∙ eq-eqb x x refl

number_positive : (nd : Node) → 0 < number_at nd → nd ≡ variable (number_at nd)
unfolding number_at
number_positive (constant b) h = absurd (omega arith)
number_positive (variable x) h = refl
number_positive (negation a) h = absurd (omega arith)
number_positive (operator f a b) h = absurd (omega arith)
number_positive (block q xs a) h = absurd (omega arith)

module _ (ns ps xs before names : List ℕ) (last : ℕ) (form : AcceptedForm ns ps xs)
    (was : (x : ℕ) → get_or before x 0 ≡ digit (binds (blocks_of ps xs) x))
    (flags : FlaggedBelow (table_of ns []) before (node_count ns) names last) where
  abbrev t : Table
  t = table_of ns []

  abbrev bs : List Block
  bs = blocks_of ps xs

  -- A name that stands at a node is free in the matrix, and so the other way round.
  stands_at_lem : (x : ℕ) → stands_below t (node_count ns) x ≡ true → (i : ℕ) × (i < node_count ns) × (t.node i ≡ variable x)
  unfolding stands_below some_below
  stands_at_lem x e =
      let p : ℕ → Bool = λ i. stands_at x (t.node i) in
      let l : lowest p (node_count ns) < node_count ns = ltb-true _ _ e in
      (lowest p (node_count ns), l, stands_is x _ (lowest_holds p (node_count ns) l))

  at_stands : (x i : ℕ) → i < node_count ns → t.node i ≡ variable x → stands_below t (node_count ns) x ≡ true
  unfolding stands_below some_below
  at_stands x i h e =
      let p : ℕ → Bool = λ i. stands_at x (t.node i) in
      let l : lowest p (node_count ns) ≤ i = lowest_least p (node_count ns) i h (is_stands x (t.node i) e) in
      let b : lowest p (node_count ns) < node_count ns = omega arith in
      lt-ltb _ _ b

  free_stands : (x : ℕ) → (stands_below t (node_count ns) x && not (binds bs x)) ≡ form_free ns ps xs x
  unfolding form_free table_of
  free_stands x =
      ap (λ b. b && not (binds bs x))
      (same_test (stands_below t (node_count ns) x) (free t x)
      (λ e. let s = stands_at_lem x e in stands_free t form.matrix.proper.tree (no_block 40960 77823 ns form.matrix) x s.0 s.1 s.2)
      (λ e. let o = free_occurs t form.matrix.proper.tree x e in at_stands x o.node o.within o.variable_is))

  number_at_lem : (i x : ℕ) → t.node i ≡ variable x → number_at (t.node i) ≡ x
  unfolding number_at
  number_at_lem i x e = ap number_at e

  -- A name at a node is at most 77,823, and so is one of the prefix.
  number_low : (x : ℕ) → is_number_to 77823 x ≡ true → x ≤ 77823
  unfolding is_number_to
  number_low x h = leb-true x 77823 (and_right (leb 1 x) (leb x 77823) h)

  name_low : (i x : ℕ) → i < node_count ns → t.node i ≡ variable x → x ≤ 77823
  name_low i x h e = number_low x (subst (MatrixNode 77823) e (matrix_node 40960 77823 ns form.matrix i h))

  last_stands : 0 < last → (stands_below t (node_count ns) last && not (binds bs last)) ≡ true
  last_stands h = last_free (stands_below t (node_count ns)) (binds bs) before names last was flags.flagged flags.highest_is h

  last_low : last ≤ 77823
  last_low = go (look (ltb 0 last))
    where
      go : Is (ltb 0 last) → last ≤ 77823
      go (is_false e) = omega (arith, ltb-false 0 last e)
      go (is_true e) =
          let s = stands_at_lem last (and_left _ (not (binds bs last)) (last_stands (ltb-true 0 last e))) in
          name_low s.0 last s.1 s.2

  pub flags_free : length names ≡ 77824 → FreeFlags (form_free ns ps xs) names last
  flags_free size =
      let f = free_flags (stands_below t (node_count ns)) (binds bs) before names last was flags.flagged flags.highest_is size (omega (arith, last_low)) in
      record {
        size = f.size;
        flagged = λ x. f.flagged x ∙ free_stands x;
        above = λ x e. f.above x (free_stands x ∙ e);
        below = f.below;
      }

  -- No name at a node is above the highest that is free and the highest of the prefix,
  stood_low : length names ≡ 77824 → (i x : ℕ) → i < node_count ns → t.node i ≡ variable x → x ≤ max last (maximum (prefix_names bs))
  stood_low size i x h e = go (look (binds bs x))
    where
      go : Is (binds bs x) → x ≤ max last (maximum (prefix_names bs))
      go (is_true b) = omega (arith, maximum_ge (prefix_names bs) x (binds_names bs x ∙ b))
      go (is_false b) =
          let f : x ≤ last = (flags_free size).above x (sym (free_stands x) ∙ and_both _ _ (at_stands x i h e) (ap not b)) in
          omega arith

  highest_low : length names ≡ 77824 → highest_variable t ≤ max last (maximum (prefix_names bs))
  unfolding highest_variable table_of
  highest_low size = go (look (ltb 0 (highest_variable t)))
    where
      go : Is (ltb 0 (highest_variable t)) → highest_variable t ≤ max last (maximum (prefix_names bs))
      go (is_false e) = omega (arith, ltb-false 0 (highest_variable t) e)
      go (is_true e) =
          let r = highest_attained (λ i. number_at (t.node i)) t.size (ltb-true 0 (highest_variable t) e) in
          let n : number_at (t.node r.0) ≡ highest_variable t = r.2 in
          let some : 0 < highest_variable t = ltb-true 0 (highest_variable t) e in
          omega (arith, n, stood_low size r.0 (number_at (t.node r.0)) r.1 (number_positive (t.node r.0) (omega (arith, n, some))))

  -- and the highest that is free stands at one.
  last_high : last ≤ highest_variable t
  unfolding highest_variable table_of
  last_high = go (look (ltb 0 last))
    where
      go : Is (ltb 0 last) → last ≤ highest_variable t
      go (is_false e) = omega (arith, ltb-false 0 last e)
      go (is_true e) =
          let s = stands_at_lem last (and_left _ (not (binds bs last)) (last_stands (ltb-true 0 last e))) in
          let n : number_at (t.node s.0) ≡ last = number_at_lem s.0 last s.2 in
          omega (arith, n, highest_ge (λ i. number_at (t.node i)) t.size s.0 s.1)

  -- So the first gate is one above both.
  pub first_is : length names ≡ 77824 → (highest : ℕ) → highest ≡ maximum (prefix_names bs) → 1 + max last highest ≡ first_gate t bs
  unfolding first_gate
  first_is size highest e = omega (arith, highest_low size, last_high, e)

  pub first_low : (highest : ℕ) → highest ≡ maximum (prefix_names bs) → max last highest ≤ 77823
  first_low highest e =
      let top : maximum (prefix_names bs) ≤ 77823 = maximum_le (prefix_names bs) 77823 (λ x h. number_low x (all_mem (is_number_to 77823) (prefix_names bs) x form.numbered h)) in
      omega (arith, last_low, e, top)
