-- What the written form of a table is made of: all of it but the names of variable nodes is the same for two tables whose nodes differ in
-- variable numbers alone and whose highest numbers are equal.
-- Assumes nothing.
use mathlib.Core.Path.{◌≡◌, refl, sym, ◌∙◌, ap, fun_ext}
use mathlib.Core.Bool.{Bool, true, false}
use mathlib.Core.List.{List, [], ◌∷◌}
use Prim.Native.Nat.{ℕ, zero, suc, ◌+◌, ◌-◌, ◌<◌}
use native.Mathlib.Omega.{arith}
use lib.ListN.{length, length-replicate}
use Rattle.lists.specs.Choice.{Is, is_true, is_false, look, clash}
use Rattle.lists.specs.Search.{lowest}
use Rattle.lists.specs.Members.{mem}
use Rattle.lists.specs.Parts.{up_to, sum, highest}
use Rattle.lists.proofs.Parts.{up_to_cong}
use Rattle.formula.specs.Node.{Quantifier, Node, constant, variable, negation, operator, block, Table, operands, is_block, bound}
use Rattle.formula.specs.FreeVariables.{number_at}
use Rattle.formula.specs.Tree.{count, bound_below}
use Rattle.prenex_form.specs.Scope.{parent, path_up, path, inner, how_many, level, depth}
use Rattle.prenex_form.specs.Names.{highest_number, bound_count, first_name, new_names, new_name, inner_bound_below, inner_below, copies, definition_variable}
use Rattle.prenex_form.specs.Levels.{blocks_at, levels, quantifier_at, level_quantifier}
use Rattle.prenex_form.specs.Matrix.{kept, renamed, first_nodes, body_of, equation, constraint, further, constraints, level_nodes, nodes_to, prenex_nodes, written_nodes}
use Rattle.prenex_form.specs.Prefix.{block_count, leading, prefix_block, prefix_blocks, written_prefix, written_variables}
use Rattle.prenex_form.specs.Sizes.{sizes}
use Rattle.prenex_form.proofs.Paths.{kept_le}
use Rattle.prenex.specs.Outcome.{written_form}
use Rattle.alpha_equivalence.specs.AlphaEquivalence.{unnamed}

-- What looks at no number sees no difference in a node without its numbers.
pub unseen : {A : Type 0} (h : Node → A) → ((x : ℕ) → h (unnamed (variable x)) ≡ h (variable x))
    → ((q : Quantifier) (xs : List ℕ) (a : ℕ) → h (unnamed (block q xs a)) ≡ h (block q xs a))
    → (nd : Node) → h (unnamed nd) ≡ h nd
unfolding unnamed
unseen h v b (constant c) = refl
unseen h v b (variable x) = v x
unseen h v b (negation a) = refl
unseen h v b (operator f a c) = refl
unseen h v b (block q xs a) = b q xs a

pub count_unseen : (nd : Node) → length (bound (unnamed nd)) ≡ length (bound nd)
unfolding unnamed bound
count_unseen = unseen (λ nd. length (bound nd)) (λ x. refl) (λ q xs a. length-replicate {A = ℕ} _ _)

-- A variable node's name and a block's definition variable, put into a node without its numbers.
named : ℕ → ℕ → Node → Node
named x d (constant b) = constant b
named x d (variable y) = variable x
named x d (negation a) = negation a
named x d (operator f a b) = operator f a b
named x d (block q xs a) = variable d

renamed_is : (t : Table) (i : ℕ) (nd : Node) → renamed t i nd ≡ named (new_name t i (number_at nd)) (definition_variable t i) (unnamed nd)
unfolding renamed unnamed number_at named
renamed_is t i (constant b) = refl
renamed_is t i (variable x) = refl
renamed_is t i (negation a) = refl
renamed_is t i (operator f a b) = refl
renamed_is t i (block q xs a) = refl

unfoldable pub is_variable : Node → Bool
is_variable (constant b) = false
is_variable (variable x) = true
is_variable (negation a) = false
is_variable (operator f a b) = false
is_variable (block q xs a) = false

pub variable_unseen : (nd : Node) → is_variable (unnamed nd) ≡ is_variable nd
unfolding unnamed is_variable
variable_unseen = unseen is_variable (λ x. refl) (λ q xs a. refl)

pub variable_is : (nd : Node) → is_variable nd ≡ true → nd ≡ variable (number_at nd)
unfolding number_at is_variable
variable_is (constant b) h = clash h refl
variable_is (variable x) h = refl
variable_is (negation a) h = clash h refl
variable_is (operator f a b) h = clash h refl
variable_is (block q xs a) h = clash h refl

named_other : (x y d : ℕ) (nd : Node) → is_variable nd ≡ false → named x d nd ≡ named y d nd
unfolding named is_variable
named_other x y d (constant b) h = refl
named_other x y d (variable z) h = clash refl h
named_other x y d (negation a) h = refl
named_other x y d (operator f a b) h = refl
named_other x y d (block q xs a) h = refl

abbrev pub table : ℕ → (ℕ → Node) → Table
table n f = record { size = n; node = f }

module _ (n : ℕ) (f g : ℕ → Node) (same : (i : ℕ) → unnamed (f i) ≡ unnamed (g i)) where
  through : {A : Type 0} (h : Node → A) → ((x : ℕ) → h (unnamed (variable x)) ≡ h (variable x))
      → ((q : Quantifier) (xs : List ℕ) (a : ℕ) → h (unnamed (block q xs a)) ≡ h (block q xs a))
      → (i : ℕ) → h (f i) ≡ h (g i)
  through h v b i = sym (unseen h v b (f i)) ∙ ap h (same i) ∙ unseen h v b (g i)

  operands_same : (i : ℕ) → operands (f i) ≡ operands (g i)
  unfolding unnamed operands
  operands_same = through operands (λ x. refl) (λ q xs a. refl)

  block_same : (i : ℕ) → is_block (f i) ≡ is_block (g i)
  unfolding unnamed is_block
  block_same = through is_block (λ x. refl) (λ q xs a. refl)

  variable_same : (i : ℕ) → is_variable (f i) ≡ is_variable (g i)
  unfolding unnamed is_variable
  variable_same = through is_variable (λ x. refl) (λ q xs a. refl)

  quantifier_same : (i : ℕ) → quantifier_at (f i) ≡ quantifier_at (g i)
  unfolding unnamed quantifier_at
  quantifier_same = through quantifier_at (λ x. refl) (λ q xs a. refl)

  body_same : (i : ℕ) → body_of (f i) ≡ body_of (g i)
  unfolding unnamed body_of
  body_same = through body_of (λ x. refl) (λ q xs a. refl)

  count_same : (i : ℕ) → count (table n f) i ≡ count (table n g) i
  unfolding count
  count_same i = sym (count_unseen (f i)) ∙ ap (λ nd. length (bound nd)) (same i) ∙ count_unseen (g i)

  parent_same : (i : ℕ) → parent (table n f) i ≡ parent (table n g) i
  unfolding parent
  parent_same i = ap (λ (o : ℕ → List ℕ). lowest (λ j. mem i (o j)) n) (fun_ext operands_same)

  path_up-same : (k i : ℕ) → path_up k (table n f) i ≡ path_up k (table n g) i
  unfolding path_up
  path_up-same zero i = refl
  path_up-same (suc k) i = rw (parent_same i, path_up-same k (parent (table n g) i))

  path_same : (i : ℕ) → path (table n f) i ≡ path (table n g) i
  unfolding path
  path_same i = path_up-same n i

  inner_same : (i : ℕ) → inner (table n f) i ≡ inner (table n g) i
  unfolding inner
  inner_same i = rw (block_same i)

  level_same : (i : ℕ) → level (table n f) i ≡ level (table n g) i
  unfolding level
  level_same i =
      ap (how_many (inner (table n f))) (path_same i) ∙ ap (λ (p : ℕ → Bool). how_many p (path (table n g) i)) (fun_ext inner_same)

  depth_same : depth (table n f) ≡ depth (table n g)
  unfolding depth
  depth_same = simp (path_same, block_same)

  blocks_at-same : (l : ℕ) → blocks_at (table n f) l ≡ blocks_at (table n g) l
  unfolding blocks_at
  blocks_at-same l = simp (inner_same, level_same)

  levels_same : levels (table n f) ≡ levels (table n g)
  unfolding levels
  levels_same = ap (λ (h : ℕ → ℕ). highest h n) (fun_ext level_same)

  level_quantifier-same : (j : ℕ) → level_quantifier (table n f) j ≡ level_quantifier (table n g) j
  unfolding level_quantifier
  level_quantifier-same zero = quantifier_same (n - 1)
  level_quantifier-same (suc j) = rw (level_quantifier-same j)

  kept_same : kept (table n f) ≡ kept (table n g)
  unfolding kept
  kept_same = rw (block_same (n - 1))

  bound_below-same : (i : ℕ) → bound_below (table n f) i ≡ bound_below (table n g) i
  unfolding bound_below
  bound_below-same i = ap (λ (h : ℕ → ℕ). sum h i) (fun_ext count_same)

  bound_count-same : bound_count (table n f) ≡ bound_count (table n g)
  unfolding bound_count
  bound_count-same = bound_below-same n

  inner_bound_below-same : (i : ℕ) → inner_bound_below (table n f) i ≡ inner_bound_below (table n g) i
  unfolding inner_bound_below
  inner_bound_below-same i = simp (inner_same, count_same)

  inner_below-same : (i : ℕ) → inner_below (table n f) i ≡ inner_below (table n g) i
  unfolding inner_below
  inner_below-same i = simp inner_same

  block_count-same : block_count (table n f) ≡ block_count (table n g)
  unfolding block_count
  block_count-same = simp block_same

  module _ (top : highest_number (table n f) ≡ highest_number (table n g)) where
    pub first_name-same : (i : ℕ) → first_name (table n f) i ≡ first_name (table n g) i
    unfolding first_name
    first_name-same i = rw (top, bound_below-same i)

    new_names-same : (i : ℕ) → new_names (table n f) i ≡ new_names (table n g) i
    unfolding new_names
    new_names-same i = rw (first_name-same i, count_same i)

    copies_same : (i : ℕ) → copies (table n f) i ≡ copies (table n g) i
    unfolding copies
    copies_same i = rw (top, bound_count-same, inner_bound_below-same i, count_same i)

    definition_same : (i : ℕ) → definition_variable (table n f) i ≡ definition_variable (table n g) i
    unfolding definition_variable
    definition_same i = rw (top, bound_count-same, inner_bound_below-same n, inner_below-same i)

    equation_same : (i s k : ℕ) → equation (table n f) i s k ≡ equation (table n g) i s k
    unfolding equation
    equation_same i s k = rw (new_names-same i, copies_same i)

    constraint_same : (i s : ℕ) → constraint (table n f) i s ≡ constraint (table n g) i s
    unfolding constraint
    constraint_same i s =
        rw (
          definition_same i,
          count_same i,
          body_same i,
          quantifier_same i,
          fun_ext {f = equation (table n f) i (s + 2)} {g = equation (table n g) i (s + 2)} (equation_same i (s + 2)),
        )

    further_same : (is : List ℕ) (s : ℕ) → further (table n f) is s ≡ further (table n g) is s
    unfolding further
    further_same [] s = refl
    further_same (i ∷ is) s =
        rw (constraint_same i s, further_same is (s + length (constraint (table n g) i s) + 1))

    constraints_same : (is : List ℕ) (s : ℕ) → constraints (table n f) is s ≡ constraints (table n g) is s
    unfolding constraints
    constraints_same [] s = refl
    constraints_same (i ∷ is) s = rw (constraint_same i s, further_same is (s + length (constraint (table n g) i s)))

    level_nodes-same : (j s : ℕ) → level_nodes (table n f) j s ≡ level_nodes (table n g) j s
    unfolding level_nodes
    level_nodes-same j s =
        rw (blocks_at-same (suc j), constraints_same (blocks_at (table n g) (suc j)) s, level_quantifier-same j)

    leading_same : (j : ℕ) → leading (table n f) j ≡ leading (table n g) j
    unfolding leading
    leading_same zero = new_names-same (n - 1)
    leading_same (suc j) = simp (blocks_at-same, new_names-same, definition_same)

    prefix_block-same : (j : ℕ) → prefix_block (table n f) j ≡ prefix_block (table n g) j
    unfolding prefix_block
    prefix_block-same j =
        rw (level_quantifier-same j, leading_same j, blocks_at-same (suc j), fun_ext {f = copies (table n f)} {g = copies (table n g)} copies_same)

    prefix_blocks-same : prefix_blocks (table n f) ≡ prefix_blocks (table n g)
    unfolding prefix_blocks
    prefix_blocks-same = simp (block_count-same, levels_same, prefix_block-same)

    -- Variable nodes with the same new names.
    module _ (names : (i x y : ℕ) → i < n → f i ≡ variable x → g i ≡ variable y → new_name (table n f) i x ≡ new_name (table n g) i y) where
      renamed_same : (i : ℕ) → i < n → renamed (table n f) i (f i) ≡ renamed (table n g) i (g i)
      renamed_same i h = renamed_is (table n f) i (f i) ∙ go (look (is_variable (f i))) ∙ sym (renamed_is (table n g) i (g i))
        where
          x : ℕ
          x = new_name (table n f) i (number_at (f i))

          y : ℕ
          y = new_name (table n g) i (number_at (g i))

          rest : named y (definition_variable (table n f) i) (unnamed (f i)) ≡ named y (definition_variable (table n g) i) (unnamed (g i))
          rest = rw (definition_same i, same i)

          go : Is (is_variable (f i))
              → named x (definition_variable (table n f) i) (unnamed (f i)) ≡ named y (definition_variable (table n g) i) (unnamed (g i))
          go (is_true v) =
              ap (λ (z : ℕ). named z (definition_variable (table n f) i) (unnamed (f i)))
              (names i (number_at (f i)) (number_at (g i)) h (variable_is (f i) v) (variable_is (g i) (sym (variable_same i) ∙ v)))
              ∙ rest
          go (is_false v) = named_other x y _ (unnamed (f i)) (variable_unseen (f i) ∙ v) ∙ rest

      first_nodes-same : first_nodes (table n f) ≡ first_nodes (table n g)
      unfolding first_nodes
      first_nodes-same =
          ap (up_to (λ i. renamed (table n f) i (f i) ∷ [])) kept_same
          ∙ up_to_cong (λ i. renamed (table n f) i (f i) ∷ []) (λ i. renamed (table n g) i (g i) ∷ []) (kept (table n g))
          (λ i h. ap (λ (nd : Node). nd ∷ []) (renamed_same i (omega (arith, kept_le (table n g)))))

      nodes_to-same : (j : ℕ) → nodes_to (table n f) j ≡ nodes_to (table n g) j
      unfolding nodes_to
      nodes_to-same zero = first_nodes-same
      nodes_to-same (suc j) = rw (nodes_to-same j, level_nodes-same j (length (nodes_to (table n g) j)))

      prenex_nodes-same : prenex_nodes (table n f) ≡ prenex_nodes (table n g)
      unfolding prenex_nodes
      prenex_nodes-same = rw (levels_same, nodes_to-same (levels (table n g)))

      pub form_same : written_form (table n f) ≡ written_form (table n g)
      unfolding written_nodes written_prefix written_variables
      form_same = rw (prenex_nodes-same, prefix_blocks-same)

      pub sizes_same : sizes (table n f) ≡ sizes (table n g)
      unfolding written_nodes written_prefix written_variables sizes
      sizes_same = rw (block_count-same, bound_count-same, depth_same, prenex_nodes-same, prefix_blocks-same)
