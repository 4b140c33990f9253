-- What holds of the nodes of an accepted table, within any limits, and the limits of a formula table as its prenex form needs them.
-- Assumes nothing.
use mathlib.Core.Path.{◌≡◌, refl, sym, subst}
use mathlib.Core.Bool.{true, false, ◌||◌}
use mathlib.Core.List.{List, [], ◌∷◌}
use Prim.Native.Nat.{ℕ, ◌≤◌, ◌<◌}
use native.Mathlib.Omega.{arith}
use lib.Dec.{leb}
use borrow.Author.Tests.{leb-true, le-leb, eqb-true, eq-eqb}
use Rattle.lists.specs.Choice.{clash, absent, and_left, and_right, and_both, or_neither}
use Rattle.lists.specs.Members.{mem, all, maximum}
use Rattle.lists.proofs.Members.{mem_nil, all_mem}
use Rattle.lists.proofs.Parts.{highest_le}
use Rattle.formula.specs.Node.{Node, constant, variable, negation, operator, block, is_block, bound}
use Rattle.formula.specs.Truth.{digit}
use Rattle.formula.specs.FreeVariables.{stands_at}
use Rattle.formula.specs.Words.{node_count, is_block_kind, words_at, words_of, node_at, table_of}
use Rattle.formula.specs.declared.NodeWords.{NodeWords}
use Rattle.formula.proofs.Nodes.{node_constant, node_variable, node_negation, node_operator, node_exists, node_for_all}
use Rattle.acceptance.specs.Limits.{TableLimits, table_limits, matrix_limits}
use Rattle.acceptance.specs.Verdict.{is_number_to, well_formed}
use Rattle.acceptance.specs.Accepted.{AcceptedWithin, Accepted}
use Rattle.acceptance.proofs.Accepted.{Formed, formed_constant, formed_variable, formed_negation, formed_operator, formed_exists, formed_for_all, formed_cases}
use Rattle.prenex_form.specs.Names.{highest_at, highest_number, bound_count}

-- numbers from 1 up to m

pub number_from : (m x : ℕ) → is_number_to m x ≡ true → 1 ≤ x
unfolding is_number_to
number_from m x h = leb-true 1 x (and_left (leb 1 x) (leb x m) h)

number_le : (m x : ℕ) → is_number_to m x ≡ true → x ≤ m
unfolding is_number_to
number_le m x h = leb-true x m (and_right (leb 1 x) (leb x m) h)

pub is_number_lem : (m x : ℕ) → 1 ≤ x → x ≤ m → is_number_to m x ≡ true
unfolding is_number_to
is_number_lem m x h k = and_both _ _ (le-leb 1 x h) (le-leb x m k)

number_mono : (m k x : ℕ) → m ≤ k → is_number_to m x ≡ true → is_number_to k x ≡ true
number_mono m k x l h = is_number_lem k x (number_from m x h) (omega (arith, number_le m x h))

maximum_le : (m : ℕ) (xs : List ℕ) → all (is_number_to m) xs ≡ true → maximum xs ≤ m
unfolding maximum all
maximum_le m [] h = omega arith
maximum_le m (x ∷ xs) h =
    omega (
      arith,
      number_le m x (and_left (is_number_to m x) (all (is_number_to m) xs) h),
      maximum_le m xs (and_right (is_number_to m x) (all (is_number_to m) xs) h),
    )

-- A node whose numbers are from 1 up to m, and whose truth table is one of the sixteen.
abbrev pub Within : ℕ → Node → Type 0
Within m (constant b) = Unit {0}
Within m (variable x) = is_number_to m x ≡ true
Within m (negation a) = Unit {0}
Within m (operator f a b) = f ≤ 15
Within m (block q xs a) = all (is_number_to m) xs ≡ true

highest_within : (m : ℕ) (nd : Node) → Within m nd → highest_at nd ≤ m
unfolding highest_at
highest_within m (constant b) w = omega arith
highest_within m (variable x) w = number_le m x w
highest_within m (negation a) w = omega arith
highest_within m (operator f a b) w = omega arith
highest_within m (block q xs a) w = maximum_le m xs w

-- 0 is no number
zero_none : (m : ℕ) → is_number_to m 0 ≡ true → ⊥
zero_none m h = omega (arith, number_from m 0 h)

pub zero_within : (m : ℕ) (nd : Node) → Within m nd → (stands_at 0 nd || mem 0 (bound nd)) ≡ false
unfolding stands_at bound
zero_within m (constant b) w = mem_nil 0
zero_within m (variable x) w = or_neither _ _ (absent _ (λ e. let z : 0 ≡ x = eqb-true 0 x e in zero_none m (rw z w))) (mem_nil 0)
zero_within m (negation a) w = mem_nil 0
zero_within m (operator f a b) w = mem_nil 0
zero_within m (block q xs a) w = absent _ (λ e. zero_none m (all_mem (is_number_to m) xs 0 w e))

-- from the words to the node

module _ (lim : TableLimits) (ws ls : List ℕ) (a : AcceptedWithin lim ws ls) where
  pub node_within : (i : ℕ) → i < node_count ws → Within lim.highest (node_at ws ls i)
  unfolding bound
  node_within i h = go (formed_cases lim (words_at ws i) (a.formed i h))
    where
      go : Formed lim (words_at ws i) → Within lim.highest (node_at ws ls i)
      go (formed_constant e _ _ _) = subst (Within lim.highest) (sym (node_constant ws ls i e)) tt
      go (formed_variable e n _ _) = subst (Within lim.highest) (sym (node_variable ws ls i e)) n
      go (formed_negation e _ _) = subst (Within lim.highest) (sym (node_negation ws ls i e)) tt
      go (formed_operator e n) = subst (Within lim.highest) (sym (node_operator ws ls i e)) n
      go (formed_exists e _) = subst (Within lim.highest) (sym (node_exists ws ls i e)) (rw (node_exists ws ls i e) at (a.numbered i h))
      go (formed_for_all e _) = subst (Within lim.highest) (sym (node_for_all ws ls i e)) (rw (node_for_all ws ls i e) at (a.numbered i h))

-- and from the node to the words

formed_by : (lim : TableLimits) (w : NodeWords) → Formed lim w → well_formed lim w ≡ true
unfolding well_formed is_block_kind
formed_by lim w (formed_constant e p q r) = rw (e, le-leb w.a 1 p, eq-eqb w.b 0 q, eq-eqb w.c 0 r)
formed_by lim w (formed_variable e p q r) = rw (e, p, eq-eqb w.b 0 q, eq-eqb w.c 0 r)
formed_by lim w (formed_negation e q r) = rw (e, eq-eqb w.b 0 q, eq-eqb w.c 0 r)
formed_by lim w (formed_operator e p) = rw (e, le-leb w.a 15 p)
formed_by lim w (formed_exists e p) = rw (e, p)
formed_by lim w (formed_for_all e p) = rw (e, p)

within_cases : (m : ℕ) (nd : Node) → is_block nd ≡ false → Within m nd → Formed (matrix_limits m) (words_of nd)
unfolding words_of is_block digit
within_cases m (constant true) p w = formed_constant refl (omega arith) refl refl
within_cases m (constant false) p w = formed_constant refl (omega arith) refl refl
within_cases m (variable x) p w = formed_variable refl w refl refl
within_cases m (negation a) p w = formed_negation refl refl refl
within_cases m (operator f a b) p w = formed_operator refl w
within_cases m (block q xs a) p w = clash refl p

pub within_formed : (m : ℕ) (nd : Node) → is_block nd ≡ false → Within m nd → well_formed (matrix_limits m) (words_of nd) ≡ true
within_formed m nd p w = formed_by (matrix_limits m) (words_of nd) (within_cases m nd p w)

-- what is well formed in a matrix stays so where numbers may be higher, and is no block
pub formed_mono : (m k : ℕ) (w : NodeWords) → m ≤ k → well_formed (matrix_limits m) w ≡ true → well_formed (matrix_limits k) w ≡ true
formed_mono m k w l h = formed_by (matrix_limits k) w (go (formed_cases (matrix_limits m) w h))
  where
    go : Formed (matrix_limits m) w → Formed (matrix_limits k) w
    go (formed_constant e p q r) = formed_constant e p q r
    go (formed_variable e p q r) = formed_variable e (number_mono m k w.a l p) q r
    go (formed_negation e q r) = formed_negation e q r
    go (formed_operator e p) = formed_operator e p
    go (formed_exists e p) = formed_exists e p
    go (formed_for_all e p) = formed_for_all e p

pub formed_plain : (m : ℕ) (w : NodeWords) → well_formed (matrix_limits m) w ≡ true → is_block_kind w.kind ≡ false
unfolding is_block_kind
formed_plain m w h = go (formed_cases (matrix_limits m) w h)
  where
    go : Formed (matrix_limits m) w → is_block_kind w.kind ≡ false
    go (formed_constant e p q r) = rw e
    go (formed_variable e p q r) = rw e
    go (formed_negation e q r) = rw e
    go (formed_operator e p) = rw e
    go (formed_exists e p) = clash p refl
    go (formed_for_all e p) = clash p refl

-- the limits of a formula table
module _ (ws ls : List ℕ) (a : Accepted ws ls) where
  pub highest_limit : highest_number (table_of ws ls) ≤ 65535
  unfolding highest_number table_of
  highest_limit =
      highest_le _ (node_count ws) 65535 (λ i h. highest_within 65535 (node_at ws ls i) (node_within table_limits ws ls a i h))

  pub bound_limit : bound_count (table_of ws ls) ≤ 4096
  unfolding bound_count table_of
  bound_limit = a.counts_limit

  pub size_limit : (table_of ws ls).size ≤ 4096
  unfolding table_of
  size_limit = a.nodes_limit
