-- The written nodes hold no block, and each names only nodes before it.
-- Assumes nothing.
use mathlib.Core.Path.{◌≡◌, refl, ◌∙◌, ap, subst}
use mathlib.Core.Bool.{true, false}
use mathlib.Core.List.{List, [], ◌∷◌, ◌++◌}
use Prim.Native.Nat.{ℕ, zero, suc, ◌+◌, ◌*◌, ◌≤◌, ◌<◌}
use native.Mathlib.Omega.{arith}
use native.Mathlib.Nat.{le_of_suc-le-suc, not-suc-le-zero}
use lib.Dec.{ltb}
use lib.ListN.{length, get_or, length-append}
use borrow.Author.Tests.{ltb-true, lt-ltb}
use Rattle.lists.specs.Choice.{and_both}
use Rattle.lists.specs.Members.{mem, all}
use Rattle.lists.specs.Parts.{up_to}
use Rattle.lists.proofs.Members.{mem_head, mem_tail, all_mem}
use Rattle.lists.proofs.Parts.{length_each}
use Rattle.formula.specs.Node.{Quantifier, exists, for_all, Node, constant, variable, negation, operator, block, Table, operands, is_block}
use Rattle.formula.specs.Words.{table_of}
use Rattle.formula.specs.Valuation.{Valuation}
use Rattle.formula.specs.Truth.{truth}
use Rattle.formula.specs.Tree.{Tree, NoEmptyBlocks, count}
use Rattle.formula.specs.Form.{matrix_truth}
use Rattle.prenex_form.specs.Names.{definition_variable}
use Rattle.prenex_form.specs.Levels.{blocks_at, levels, level_quantifier}
use Rattle.prenex_form.specs.Matrix.{iff, kept, renamed, first_nodes, body_of, equation, constraint, further, constraints, level_join, level_nodes, nodes_to, prenex_nodes, written_nodes}
use Rattle.prenex_form.proofs.Cut.{matrix_at}
use Rattle.prenex_form.proofs.Paths.{kept_le, blocks_at-lt, blocks_at-inner, kept_positive}
use Rattle.prenex_form.proofs.NodeLists.{list_table, Plain, words_table}
use Rattle.prenex_form.proofs.Written.{equation_first, equation_next, length_equations, closing, constraint_parts, length_constraint_ge, length-first_nodes, body_kept, written_truth}

-- A node that is no block and names only nodes below i.
abbrev Fits : ℕ → Node → Type 0
Fits i (constant b) = Unit {0}
Fits i (variable x) = Unit {0}
Fits i (negation a) = a < i
Fits i (operator f a b) = (a < i) × (b < i)
Fits i (block q xs a) = ⊥

-- Nodes that fit at the indices from s on.
data Ordered : ℕ → List Node → Type 0 where
  none : {s : ℕ} → Ordered s []
  next : {s : ℕ} (nd : Node) {ns : List Node} → Fits s nd → Ordered (suc s) ns → Ordered s (nd ∷ ns)

ordered_from : (s r : ℕ) (ns : List Node) → s ≡ r → Ordered s ns → Ordered r ns
ordered_from s r ns e o = subst (λ (k : ℕ). Ordered k ns) e o

ordered_append : (s : ℕ) (xs ys : List Node) → Ordered s xs → Ordered (s + length xs) ys → Ordered s (xs ++ ys)
ordered_append s [] ys none o = ordered_from (s + 0) s ys (omega arith) o
ordered_append s (x ∷ xs) ys (next _ f r) o =
    next x f (ordered_append (suc s) xs ys r (ordered_from (s + suc (length xs)) (suc s + length xs) ys (omega arith) o))

of_variable : {s x : ℕ} {ns : List Node} → Ordered (suc s) ns → Ordered s (variable x ∷ ns)
of_variable {s} {x} o = next (variable x) tt o

of_operator : {s f a b : ℕ} {ns : List Node} → a < s → b < s → Ordered (suc s) ns → Ordered s (operator f a b ∷ ns)
of_operator {s} {f} {a} {b} l r o = next (operator f a b) (l, r) o

-- the parts of the form
equations_ordered : (t : Table) (i s k : ℕ) → Ordered s (up_to (equation t i s) k)
unfolding up_to
equations_ordered t i s zero = none
equations_ordered t i s (suc zero) = rw equation_first (of_variable (of_variable (of_operator (omega arith) (omega arith) none)))
equations_ordered t i s (suc (suc k)) =
    let n = length_equations t i s (suc k) (omega arith) in
    ordered_append s (up_to (equation t i s) (suc k)) (equation t i s (suc k)) (equations_ordered t i s (suc k))
    (rw equation_next (of_variable (of_variable (of_operator (omega arith) (omega arith) (of_operator (omega arith) (omega arith) none)))))

equations_reach : (t : Table) (i s k : ℕ) → 4 * k ≤ suc (length (up_to (equation t i s) k))
equations_reach t i s zero = omega arith
equations_reach t i s (suc k) = omega (arith, length_equations t i s (suc k) (omega arith))

constraint_ordered : (t : Table) (i s : ℕ) → body_of (t.node i) < s → Ordered s (constraint t i s)
unfolding closing
constraint_ordered t i s h =
    let n = count t i in
    let l = equations_reach t i (s + 2) n in
    let first = variable (definition_variable t i) ∷ operator iff s (body_of (t.node i)) ∷ [] in
    let es = up_to (equation t i (s + 2)) n in
    rw (constraint_parts t i s)
    (ordered_append s first (es ++ closing t i (s + 1) (s + 4 * n)) (of_variable (of_operator (omega arith) (omega arith) none))
    (ordered_append (s + 2) es (closing t i (s + 1) (s + 4 * n)) (equations_ordered t i (s + 2) n)
    (of_variable (of_operator (omega arith) (omega arith) (of_operator (omega arith) (omega arith) none)))))

-- the bodies of these blocks are below k
abbrev Low : Table → ℕ → List ℕ → Type 0
Low t k is = (i : ℕ) → mem i is ≡ true → body_of (t.node i) < k

module _ (t : Table) (k : ℕ) where
  head_ordered : (i : ℕ) (is : List ℕ) (s : ℕ) → k ≤ s → Low t k (i ∷ is) → Ordered s (constraint t i s)
  head_ordered i is s h low = constraint_ordered t i s (omega (arith, low i (mem_head i is)))

  further_ordered : (is : List ℕ) (s : ℕ) → 0 < s → k ≤ s → Low t k is → Ordered s (further t is s)
  unfolding further
  further_ordered [] s p h low = none
  further_ordered (i ∷ is) s p h low =
      let n = length_constraint_ge t i s in
      ordered_append s (constraint t i s) _ (head_ordered i is s h low)
      (of_operator (omega arith) (omega arith)
      (ordered_from (s + length (constraint t i s) + 1) (suc (s + length (constraint t i s))) _ (omega arith)
      (further_ordered is (s + length (constraint t i s) + 1) (omega arith) (omega arith) (λ j m. low j (mem_tail j i is m)))))

  constraints_ordered : (is : List ℕ) (s : ℕ) → k ≤ s → Low t k is → Ordered s (constraints t is s)
  unfolding constraints
  constraints_ordered [] s h low = none
  constraints_ordered (i ∷ is) s h low =
      let n = length_constraint_ge t i s in
      ordered_append s (constraint t i s) _ (head_ordered i is s h low)
      (further_ordered is (s + length (constraint t i s)) (omega arith) (omega arith) (λ j m. low j (mem_tail j i is m)))

  level_join_ordered : (q : Quantifier) (s m c : ℕ) → m < s → c < s → Ordered s (level_join q m c ∷ [])
  unfolding level_join
  level_join_ordered exists s m c l r = of_operator r l none
  level_join_ordered for_all s m c l r = of_operator l r none

  level_ordered : (j s : ℕ) → 0 < s → k ≤ s → Low t k (blocks_at t (suc j)) → Ordered s (level_nodes t j s)
  unfolding level_nodes
  level_ordered j s p h low =
      ordered_append s (constraints t (blocks_at t (suc j)) s) _ (constraints_ordered (blocks_at t (suc j)) s h low)
      (level_join_ordered (level_quantifier t j) _ _ _ (omega arith) (omega arith))

renamed_fits : (t : Table) (i : ℕ) (nd : Node) → ((a : ℕ) → mem a (operands nd) ≡ true → a < i) → Fits i (renamed t i nd)
unfolding renamed operands
renamed_fits t i (constant b) low = tt
renamed_fits t i (variable x) low = tt
renamed_fits t i (negation a) low = low a (mem_head a [])
renamed_fits t i (operator f a b) low = (low a (mem_head a (b ∷ [])), low b (mem_tail b a (b ∷ []) (mem_head b [])))
renamed_fits t i (block q xs a) low = tt

module _ (t : Table) (tree : Tree t) where
  first_ordered : (n : ℕ) → n ≤ t.size → Ordered 0 (up_to (λ i. renamed t i (t.node i) ∷ []) n)
  unfolding up_to
  first_ordered zero h = none
  first_ordered (suc n) h =
      let l = length_each (λ i. renamed t i (t.node i)) n in
      ordered_append 0 (up_to (λ i. renamed t i (t.node i) ∷ []) n) _ (first_ordered n (omega arith))
      (ordered_from n (0 + length (up_to (λ i. renamed t i (t.node i) ∷ []) n)) _ (omega arith)
      (next (renamed t n (t.node n)) (renamed_fits t n (t.node n) (λ a m. tree.lower n a h m)) none))

  level_low : (l : ℕ) → Low t (kept t) (blocks_at t l)
  level_low l i m = body_kept t tree i (blocks_at-lt t tree l i m) (blocks_at-inner t tree l i m)

  nodes_ordered : (j : ℕ) → (kept t ≤ length (nodes_to t j)) × Ordered 0 (nodes_to t j)
  unfolding nodes_to first_nodes
  nodes_ordered zero = (omega (arith, length-first_nodes t), first_ordered (kept t) (kept_le t))
  nodes_ordered (suc j) =
      let r = nodes_ordered j in
      let ns = nodes_to t j in
      let k = kept_positive t tree in
      let o = level_ordered t (kept t) j (length ns) (omega (arith, r.0)) r.0 (level_low (suc j)) in (
        omega (arith, r.0, length-append ns (level_nodes t j (length ns))),
        ordered_append 0 ns _ r.1 (ordered_from (length ns) (0 + length ns) _ (omega arith) o),
      )

fits_plain : (i : ℕ) (nd : Node) → Fits i nd → is_block nd ≡ false
unfolding is_block
fits_plain i (constant b) f = refl
fits_plain i (variable x) f = refl
fits_plain i (negation a) f = refl
fits_plain i (operator o a b) f = refl
fits_plain i (block q xs a) f = absurd f

fits_all : (i : ℕ) (nd : Node) → Fits i nd → all (λ a. ltb a i) (operands nd) ≡ true
unfolding operands all
fits_all i (constant b) f = refl
fits_all i (variable x) f = refl
fits_all i (negation a) f = and_both _ _ (lt-ltb a i f) refl
fits_all i (operator o a b) f = and_both _ _ (lt-ltb a i f.0) (and_both _ _ (lt-ltb b i f.1) refl)
fits_all i (block q xs a) f = absurd f

fits_lower : (i : ℕ) (nd : Node) (a : ℕ) → Fits i nd → mem a (operands nd) ≡ true → a < i
fits_lower i nd a f m = ltb-true a i (all_mem (λ a. ltb a i) (operands nd) a (fits_all i nd f) m)

ordered_at : (s : ℕ) (ns : List Node) → Ordered s ns → (k j : ℕ) → k < length ns → s + k ≡ j → Fits j (get_or ns k (constant false))
ordered_at s [] none k j h e = absurd (not-suc-le-zero h)
ordered_at s (nd ∷ ns) (next _ f o) zero j h e = let d : s ≡ j = omega arith in subst (λ (i : ℕ). Fits i nd) d f
ordered_at s (nd ∷ ns) (next _ f o) (suc k) j h e = ordered_at (suc s) ns o k j (le_of_suc-le-suc h) (omega arith)

module _ (t : Table) (tree : Tree t) where
  prenex_fits : (i : ℕ) → i < length (prenex_nodes t) → Fits i (get_or (prenex_nodes t) i (constant false))
  unfolding prenex_nodes
  prenex_fits i h = ordered_at 0 (prenex_nodes t) (nodes_ordered t tree (levels t)).1 i i h (omega arith)

  pub prenex_plain : Plain (prenex_nodes t)
  prenex_plain i h = fits_plain i _ (prenex_fits i h)

  pub prenex_lower : (i a : ℕ) → i < length (prenex_nodes t) → mem a (operands (get_or (prenex_nodes t) i (constant false))) ≡ true → a < i
  prenex_lower i a h m = fits_lower i _ a (prenex_fits i h) m

  pub prenex_nonempty : 0 < length (prenex_nodes t)
  unfolding prenex_nodes
  prenex_nonempty = omega (arith, (nodes_ordered t tree (levels t)).0, kept_positive t tree)

  -- the words of the form read back as its nodes
  pub written_table : table_of (written_nodes t) [] ≡ list_table (prenex_nodes t)
  unfolding written_nodes
  written_table = words_table (prenex_nodes t) prenex_plain

  pub matrix_truth_lem : NoEmptyBlocks t → (v : Valuation) → matrix_truth (written_nodes t) v ≡ matrix_at t (levels t) (levels t) v
  unfolding matrix_truth
  matrix_truth_lem filled v = ap (λ (u : Table). truth u v) written_table ∙ written_truth t tree filled v
