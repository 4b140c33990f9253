-- The numbers that are free in a table are those that are free in its prenex form (document 01, "Truth and size"), and where the
-- variables at the form's nodes come from.
-- Assumes nothing.
use mathlib.Core.Path.{◌≡◌, refl, sym, ◌∙◌, ap, subst}
use mathlib.Core.Bool.{Bool, true, false, not, ◌&&◌, ◌||◌, or-false}
use mathlib.Core.List.{List, [], ◌∷◌, ◌++◌}
use Prim.Native.Nat.{ℕ, zero, suc, ◌+◌, ◌-◌, ◌≤◌, ◌<◌}
use native.Mathlib.Omega.{arith}
use native.Mathlib.Nat.{not-suc-le-zero}
use lib.Dec.{eqb, ltb}
use lib.ListN.{length, get_or, length-append, get_or-append}
use borrow.Author.Tests.{eqb-true, eqb-false, eq-eqb, ne_eqb, ltb-true, ltb-false, lt-ltb}
use Rattle.lists.specs.Choice.{pick, pick_yes, pick_no, Is, is_true, is_false, look, clash, and_left, and_right, and_both, or_left, or_right, absent, same_test}
use Rattle.lists.specs.Members.{mem}
use Rattle.lists.specs.Search.{lowest, some_below}
use Rattle.lists.specs.Parts.{up_to, passing}
use Rattle.lists.proofs.Search.{lowest_none, lowest_holds, lowest_least}
use Rattle.lists.proofs.Members.{mem_left, mem_right, mem_head, mem_tail, mem-get_or, mem_flat_map, or_group}
use Rattle.lists.proofs.Parts.{term_le, up_to_cong}
use Rattle.formula.specs.Node.{Quantifier, exists, for_all, Node, constant, variable, negation, operator, block, Table, operands, is_block, bound}
use Rattle.formula.specs.Tree.{Tree, Proper, NoEmptyBlocks, count}
use Rattle.formula.specs.Truth.{node_free, free_at, free}
use Rattle.formula.specs.Form.{Block, binds, form_free}
use Rattle.formula.specs.FreeVariables.{stands_at, highest_variable, free_variables}
use Rattle.formula.proofs.Prefix.{binds_mem}
use Rattle.formula.proofs.Unfolding.{free_at_node}
use Rattle.formula.proofs.FreeVariables.{Through, here, through, free_through, through_free}
use Rattle.prenex_form.specs.Scope.{binder, inner, level, parent}
use Rattle.prenex_form.specs.FreeVariables.{unbound_at, stands_unbound, FreeByBinder}
use Rattle.prenex_form.specs.Names.{new_names, new_name, copies, definition_variable}
use Rattle.prenex_form.specs.Levels.{blocks_at, levels, quantifier_at, level_quantifier}
use Rattle.prenex_form.specs.Matrix.{kept, renamed, first_nodes, equation, guard, constraint, further, constraints, level_join, level_nodes, nodes_to, prenex_nodes, written_nodes}
use Rattle.prenex_form.specs.Prefix.{block_count, leading, prefix_block, prefix_blocks, written_prefix, written_variables}
use Rattle.prenex_form.proofs.Paths.{climb, parent_lt, parent_names, binder_le, binder_root, binder_step, binder_block, inner_level, level_le_levels, mem-blocks_at, blocks_at-lt, blocks_at-inner, inner_block, kept_le, kept_inner}
use Rattle.prenex_form.proofs.NameLaws.{variable_le, length-new_names, length_copies, new_name-free, new_name-bound}
use Rattle.prenex_form.proofs.NodeLists.{list_table, Plain}
use Rattle.prenex_form.proofs.Written.{length-first_nodes, get_or-first_nodes}
use Rattle.prenex_form.proofs.WrittenOrder.{prenex_plain, written_table}
use Rattle.prenex_form.proofs.WrittenTree.{prenex_tree}
use Rattle.prenex_form.proofs.PrefixNames.{prefix_read, prefix_new}

and_not : (a b : Bool) → (a && not b) ≡ true → b ≡ false
and_not true true h = sym h
and_not true false h = refl
and_not false b h = clash h refl

-- the free numbers of a tree

stands_variable : (x : ℕ) (nd : Node) → stands_at x nd ≡ true → nd ≡ variable x
unfolding stands_at
stands_variable x (constant b) h = clash h refl
stands_variable x (variable y) h = ap variable (sym (eqb-true x y h))
stands_variable x (negation a) h = clash h refl
stands_variable x (operator f a b) h = clash h refl
stands_variable x (block q xs a) h = clash h refl

-- x stands at a variable node, and no block above the node binds it. In a tree this is what `free` says: free_stands, stands_free.
pub record Stands (t : Table) (x : ℕ) : Type 0 where
  pub node : ℕ
  pub within : node < t.size
  pub variable_is : t.node node ≡ variable x
  pub unbound : binder t node x ≡ t.size

module _ (t : Table) (tree : Tree t) (x : ℕ) where
  -- from a node to what it names and back: no binder in between
  binder_down : (j i : ℕ) → j < t.size → mem i (operands (t.node j)) ≡ true → (is_block (t.node j) && mem x (bound (t.node j))) ≡ false
      → binder t j x ≡ t.size → binder t i x ≡ t.size
  binder_down j i h m n b = binder_step t tree j i x h m ∙ pick_no _ _ _ n ∙ b

  binder_up : (j i : ℕ) → j < t.size → mem i (operands (t.node j)) ≡ true → binder t i x ≡ t.size
      → Is (is_block (t.node j) && mem x (bound (t.node j)))
      → ((is_block (t.node j) && mem x (bound (t.node j))) ≡ false) × (binder t j x ≡ t.size)
  binder_up j i h m b (is_true e) =
      let s : binder t i x ≡ j = binder_step t tree j i x h m ∙ pick_yes _ _ _ e in absurd (omega arith)
  binder_up j i h m b (is_false e) = (e, sym (pick_no _ _ _ e) ∙ sym (binder_step t tree j i x h m) ∙ b)

  stands_below_lem : (f i : ℕ) → i < f → i < t.size → binder t i x ≡ t.size → free_at t.size t x i ≡ true → Stands t x
  stands_below_lem zero i l h b e = absurd (not-suc-le-zero l)
  stands_below_lem (suc f) i l h b e =
      go (free_through (free_at t.size t x) x (t.node i) (sym (free_at_node t tree.lower x i h) ∙ e)) (stands_below_lem f)
    where
      go : Through (free_at t.size t x) x (t.node i)
          → ((a : ℕ) → a < f → a < t.size → binder t a x ≡ t.size → free_at t.size t x a ≡ true → Stands t x) → Stands t x
      go (here v) next = record { node = i; within = h; variable_is = v; unbound = b }
      go (through a m k n) next =
          let s = tree.lower i a h m in next a (omega arith) (omega arith) (binder_down i a h m n b) k

  pub free_stands : free t x ≡ true → Stands t x
  unfolding free
  free_stands e =
      let h = tree.nonempty in
      stands_below_lem t.size (t.size - 1) (omega arith) (omega arith) (binder_root t tree (t.size - 1) x (omega arith)) e

  free_above : (i : ℕ) → i < t.size → binder t i x ≡ t.size → free_at t.size t x i ≡ true → free t x ≡ true
  unfolding free
  free_above =
      climb t tree (λ i. binder t i x ≡ t.size → free_at t.size t x i ≡ true → free_at t.size t x (t.size - 1) ≡ true)
      (λ i h b e. let s : i ≡ t.size - 1 = omega arith in rw s at e)
      (λ i h r b e.
      let j = parent t i in
      let l = parent_lt t tree i h in
      let m = parent_names t tree i h in
      let u = binder_up j i l m b (look _) in
      r u.1 (free_at_node t tree.lower x j l ∙ through_free (free_at t.size t x) x (t.node j) i m e u.0))

  pub stands_free : Stands t x → free t x ≡ true
  unfolding node_free
  stands_free s =
      free_above s.node s.within s.unbound
      (free_at_node t tree.lower x s.node s.within
      ∙ ap (node_free (free_at t.size t x) x) s.variable_is ∙ eq-eqb x x refl)

  -- the same as a test

  unbound_stands : stands_unbound t x ≡ true → Stands t x
  unfolding stands_unbound some_below
  unbound_stands e =
      let i : ℕ = lowest (unbound_at t x) t.size in
      let h : i < t.size = ltb-true i t.size e in
      let m : unbound_at t x i ≡ true = lowest_holds (unbound_at t x) t.size h in
      record {
        node = i;
        within = h;
        variable_is = stands_variable x (t.node i) (and_left _ _ m);
        unbound = eqb-true (binder t i x) t.size (and_right (stands_at x (t.node i)) _ m);
      }

  stands_unbound_lem : Stands t x → stands_unbound t x ≡ true
  unfolding stands_unbound some_below stands_at
  stands_unbound_lem s =
      let here_is : stands_at x (t.node s.node) ≡ true = ap (stands_at x) s.variable_is ∙ eq-eqb x x refl in
      let l : lowest (unbound_at t x) t.size ≤ s.node = lowest_least (unbound_at t x) t.size s.node s.within (and_both _ _ here_is (eq-eqb _ _ s.unbound)) in
      lt-ltb (lowest (unbound_at t x) t.size) t.size (omega (arith, s.within))

  pub free_unbound : free t x ≡ stands_unbound t x
  free_unbound = same_test (free t x) (stands_unbound t x) (λ e. stands_unbound_lem (free_stands e)) (λ e. stands_free (unbound_stands e))

pub free_by_binder : FreeByBinder
unfolding free_variables passing
free_by_binder t tree = up_to_cong _ _ (suc (highest_variable t)) (λ x h. ap (λ b. pick b (x ∷ []) []) (free_unbound t tree x))

-- what the prefix binds

binds_append : (bs cs : List Block) (x : ℕ) → binds (bs ++ cs) x ≡ (binds bs x || binds cs x)
unfolding binds
binds_append [] cs x = refl
binds_append (b ∷ bs) cs x = or_group (mem x b.variables) (binds (bs ++ cs) x) (binds bs x) (binds cs x) (binds_append bs cs x)

binds_one : (b : Block) (x : ℕ) → binds (b ∷ []) x ≡ mem x b.variables
unfolding binds
binds_one b x = or-false (mem x b.variables)

module _ (g : ℕ → Block) (x : ℕ) where
  binds_each : (n : ℕ) → binds (up_to (λ j. g j ∷ []) (suc n)) x ≡ (binds (up_to (λ j. g j ∷ []) n) x || mem x (g n).variables)
  unfolding up_to
  binds_each n = binds_append (up_to (λ j. g j ∷ []) n) (g n ∷ []) x ∙ ap (◌||◌ (binds (up_to (λ j. g j ∷ []) n) x)) (binds_one (g n) x)

  binds-up_to : (n j : ℕ) → j < n → mem x (g j).variables ≡ true → binds (up_to (λ j. g j ∷ []) n) x ≡ true
  binds-up_to zero j h m = absurd (not-suc-le-zero h)
  binds-up_to (suc n) j h m = binds_each n ∙ go (look (eqb j n)) (binds-up_to n j)
    where
      go : Is (eqb j n) → (j < n → mem x (g j).variables ≡ true → binds (up_to (λ j. g j ∷ []) n) x ≡ true)
          → (binds (up_to (λ j. g j ∷ []) n) x || mem x (g n).variables) ≡ true
      go (is_true e) next = or_right (binds (up_to (λ j. g j ∷ []) n) x) _ (rw (eqb-true j n e) at m)
      go (is_false e) next = or_left _ _ (let k = eqb-false j n e in next (omega arith) m)

module _ (t : Table) where
  prefix_binds : (j x : ℕ) → j ≤ levels t → eqb (block_count t) 0 ≡ false → mem x (prefix_block t j).variables ≡ true
      → binds (prefix_blocks t) x ≡ true
  unfolding prefix_blocks
  prefix_binds j x h e m =
      rw (pick_no _ [] (up_to (λ j. prefix_block t j ∷ []) (suc (levels t))) e)
      (binds-up_to (prefix_block t) x (suc (levels t)) j (omega arith) m)

  some_block : (i : ℕ) → i < t.size → is_block (t.node i) ≡ true → eqb (block_count t) 0 ≡ false
  unfolding block_count
  some_block i h b =
      ne_eqb (block_count t) 0 (λ e. omega (arith, term_le (λ j. pick (is_block (t.node j)) 1 0) t.size i h, pick_yes {A = ℕ} (is_block (t.node i)) 1 0 b))

  module _ (tree : Tree t) where
    -- the names and the definition variable of an inner block are in the prefix block of its level, its copies in the one before
    level_own : (i x : ℕ) → i < t.size → inner t i ≡ true → mem x (new_names t i ++ (definition_variable t i ∷ [])) ≡ true
        → binds (prefix_blocks t) x ≡ true
    unfolding prefix_block leading
    level_own i x h n m =
        let l = inner_level t tree i h n in
        let e : level t i ≡ suc (level t i - 1) = omega arith in
        prefix_binds (suc (level t i - 1)) x (omega (arith, level_le_levels t tree i h)) (some_block i h (inner_block t i n))
        (mem_left x _ _
        (mem_flat_map (λ k. new_names t k ++ (definition_variable t k ∷ [])) x i (blocks_at t (suc (level t i - 1)))
        (mem-blocks_at t tree (suc (level t i - 1)) i h n e) m))

    binds_definition : (i : ℕ) → i < t.size → inner t i ≡ true → binds (prefix_blocks t) (definition_variable t i) ≡ true
    binds_definition i h n = level_own i _ h n (mem_right _ (new_names t i) _ (mem_head (definition_variable t i) []))

    binds_copy : (i x : ℕ) → i < t.size → inner t i ≡ true → mem x (copies t i) ≡ true → binds (prefix_blocks t) x ≡ true
    unfolding prefix_block
    binds_copy i x h n m =
        let l = inner_level t tree i h n in
        let e : level t i ≡ suc (level t i - 1) = omega arith in
        prefix_binds (level t i - 1) x (omega (arith, level_le_levels t tree i h)) (some_block i h (inner_block t i n))
        (mem_right x (leading t (level t i - 1)) _
        (mem_flat_map (copies t) x i (blocks_at t (suc (level t i - 1))) (mem-blocks_at t tree (suc (level t i - 1)) i h n e) m))

    -- a root block's names are in prefix block 0
    binds_name : (i x : ℕ) → i < t.size → is_block (t.node i) ≡ true → mem x (new_names t i) ≡ true → binds (prefix_blocks t) x ≡ true
    unfolding prefix_block leading inner
    binds_name i x h b m = go (look (eqb (suc i) t.size))
      where
        go : Is (eqb (suc i) t.size) → binds (prefix_blocks t) x ≡ true
        go (is_true e) =
            let s : i ≡ t.size - 1 = omega (arith, eqb-true (suc i) t.size e) in
            prefix_binds 0 x (omega arith) (some_block i h b) (mem_left x _ _ (rw s at m))
        go (is_false e) = level_own i x h (and_both _ _ b (ap not e)) (mem_left x _ _ m)

-- where the variables and the truth tables at the nodes of the form come from

-- x is a free number of the table, or the prefix binds it
pub data Source (t : Table) (x : ℕ) : Type 0 where
  of_table_lem : Stands t x → Source t x
  of_prefix : binds (prefix_blocks t) x ≡ true → Source t x

-- f is the truth table of one of the table's operators, or one that the form adds
pub data Applied (t : Table) (f : ℕ) : Type 0 where
  of_node : (i a b : ℕ) → i < t.size → t.node i ≡ operator f a b → Applied t f
  of_form : f ≤ 15 → Applied t f

abbrev pub Sourced : Table → Node → Type 0
Sourced t (constant b) = Unit {0}
Sourced t (variable x) = Source t x
Sourced t (negation a) = Unit {0}
Sourced t (operator f a b) = Applied t f
Sourced t (block q xs a) = Unit {0}

data AllSourced (t : Table) : List Node → Type 0 where
  none : AllSourced t []
  next : (nd : Node) {ns : List Node} → Sourced t nd → AllSourced t ns → AllSourced t (nd ∷ ns)

sourced_at : (t : Table) (ns : List Node) → AllSourced t ns → (k : ℕ) → Sourced t (get_or ns k (constant false))
sourced_at t [] none k = tt
sourced_at t (nd ∷ ns) (next _ p r) zero = p
sourced_at t (nd ∷ ns) (next _ p r) (suc k) = sourced_at t ns r k

of_variable : {t : Table} {x : ℕ} {ns : List Node} → Source t x → AllSourced t ns → AllSourced t (variable x ∷ ns)
of_variable {t} {x} p r = next (variable x) p r

of_operator : {t : Table} {f a b : ℕ} {ns : List Node} → f ≤ 15 → AllSourced t ns → AllSourced t (operator f a b ∷ ns)
of_operator {t} {f} {a} {b} l r = next (operator f a b) (of_form l) r

guard_le : (q : Quantifier) → guard q ≤ 15
unfolding guard
guard_le exists = omega arith
guard_le for_all = omega arith

module _ (t : Table) where
  append_sourced : (ms ns : List Node) → AllSourced t ms → AllSourced t ns → AllSourced t (ms ++ ns)
  append_sourced [] ns none q = q
  append_sourced (m ∷ ms) ns (next _ p r) q = next m p (append_sourced ms ns r q)

  up_to_sourced : (g : ℕ → List Node) (n : ℕ) → ((i : ℕ) → i < n → AllSourced t (g i)) → AllSourced t (up_to g n)
  unfolding up_to
  up_to_sourced g zero h = none
  up_to_sourced g (suc n) h = append_sourced (up_to g n) (g n) (up_to_sourced g n (λ i l. h i (omega arith))) (h n (omega arith))

  pick_sourced : (b : Bool) (ms ns : List Node) → AllSourced t ms → AllSourced t ns → AllSourced t (pick b ms ns)
  unfolding pick
  pick_sourced true ms ns p q = p
  pick_sourced false ms ns p q = q

  level_join_sourced : (q : Quantifier) (m c : ℕ) → AllSourced t (level_join q m c ∷ [])
  unfolding level_join
  level_join_sourced exists m c = of_operator (omega arith) none
  level_join_sourced for_all m c = of_operator (omega arith) none

  module _ (tree : Tree t) where
    new_sourced : (i x : ℕ) → i < t.size → t.node i ≡ variable x → Is (ltb (binder t i x) t.size) → Source t (new_name t i x)
    new_sourced i x h e (is_true l) =
        let k = ltb-true (binder t i x) t.size l in
        of_prefix (binds_name t tree (binder t i x) (new_name t i x) k (binder_block t tree i x k) (new_name-bound t i x k))
    new_sourced i x h e (is_false l) =
        let k = ltb-false (binder t i x) t.size l in
        let b : binder t i x ≡ t.size = omega (arith, binder_le t i x) in
        rw (new_name-free t i x b) (of_table_lem (record { node = i; within = h; variable_is = e; unbound = b }))

    renamed_sourced : (i : ℕ) → i < kept t → (nd : Node) → t.node i ≡ nd → Sourced t (renamed t i nd)
    unfolding renamed is_block
    renamed_sourced i h (constant b) e = tt
    renamed_sourced i h (variable x) e = new_sourced i x (omega (arith, kept_le t)) e (look _)
    renamed_sourced i h (negation a) e = tt
    renamed_sourced i h (operator f a b) e = of_node i a b (omega (arith, kept_le t)) e
    renamed_sourced i h (block q xs a) e = of_prefix (binds_definition t tree i (omega (arith, kept_le t)) (kept_inner t i h (ap is_block e)))

    first_sourced : AllSourced t (first_nodes t)
    unfolding first_nodes
    first_sourced =
        up_to_sourced (λ i. renamed t i (t.node i) ∷ []) (kept t)
        (λ i h. next (renamed t i (t.node i)) (renamed_sourced i h (t.node i) refl) none)

    module _ (i : ℕ) (h : i < t.size) (n : inner t i ≡ true) where
      definition_sourced : Source t (definition_variable t i)
      definition_sourced = of_prefix (binds_definition t tree i h n)

      equation_sourced : (s k : ℕ) → k < count t i → AllSourced t (equation t i s k)
      unfolding equation
      equation_sourced s k l =
          let x = get_or (new_names t i) k 0 in
          let y = get_or (copies t i) k 0 in
          let a : Source t x = of_prefix (binds_name t tree i x h (inner_block t i n) (mem-get_or (new_names t i) k 0 (omega (arith, length-new_names t i)))) in
          let b : Source t y = of_prefix (binds_copy t tree i y h n (mem-get_or (copies t i) k 0 (omega (arith, length_copies t i)))) in
          pick_sourced (eqb k 0) _ _
          (of_variable a (of_variable b (of_operator (omega arith) none)))
          (of_variable a (of_variable b (of_operator (omega arith) (of_operator (omega arith) none))))

      constraint_sourced : (s : ℕ) → AllSourced t (constraint t i s)
      unfolding constraint
      constraint_sourced s =
          of_variable definition_sourced
          (of_operator (omega arith)
          (append_sourced (up_to (equation t i (s + 2)) (count t i)) _
          (up_to_sourced (equation t i (s + 2)) (count t i) (λ k l. equation_sourced (s + 2) k l))
          (of_variable definition_sourced (of_operator (guard_le (quantifier_at (t.node i))) (of_operator (omega arith) none)))))

    -- every number of the list is that of an inner block
    abbrev Inner : List ℕ → Type 0
    Inner is = (i : ℕ) → mem i is ≡ true → (i < t.size) × (inner t i ≡ true)

    further_sourced : (is : List ℕ) (s : ℕ) → Inner is → AllSourced t (further t is s)
    unfolding further
    further_sourced [] s h = none
    further_sourced (i ∷ is) s h =
        let r = h i (mem_head i is) in
        append_sourced (constraint t i s) _ (constraint_sourced i r.0 r.1 s)
        (of_operator (omega arith) (further_sourced is _ (λ j m. h j (mem_tail j i is m))))

    constraints_sourced : (is : List ℕ) (s : ℕ) → Inner is → AllSourced t (constraints t is s)
    unfolding constraints
    constraints_sourced [] s h = none
    constraints_sourced (i ∷ is) s h =
        let r = h i (mem_head i is) in
        append_sourced (constraint t i s) _ (constraint_sourced i r.0 r.1 s) (further_sourced is _ (λ j m. h j (mem_tail j i is m)))

    nodes_sourced : (j : ℕ) → AllSourced t (nodes_to t j)
    unfolding nodes_to level_nodes
    nodes_sourced zero = first_sourced
    nodes_sourced (suc j) =
        append_sourced (nodes_to t j) _ (nodes_sourced j)
        (append_sourced (constraints t (blocks_at t (suc j)) (length (nodes_to t j))) _
        (constraints_sourced (blocks_at t (suc j)) _ (λ i m. (blocks_at-lt t tree (suc j) i m, blocks_at-inner t tree (suc j) i m)))
        (level_join_sourced (level_quantifier t j) _ _))

    pub prenex_sourced : (k : ℕ) → Sourced t (get_or (prenex_nodes t) k (constant false))
    unfolding prenex_nodes
    prenex_sourced k = sourced_at t (prenex_nodes t) (nodes_sourced (levels t)) k

    -- the first nodes stand first
    first_at_lem : (j i : ℕ) → i < kept t → (i < length (nodes_to t j)) × (get_or (nodes_to t j) i (constant false) ≡ renamed t i (t.node i))
    unfolding nodes_to
    first_at_lem zero i h = (omega (arith, length-first_nodes t), get_or-first_nodes t i h)
    first_at_lem (suc j) i h =
        let r = first_at_lem j i h in
        let ns = nodes_to t j in
        let ls = level_nodes t j (length ns) in
        (omega (arith, r.0, length-append ns ls), get_or-append ns ls (constant false) i r.0 ∙ r.1)

    -- a variable node is kept
    variable_kept : (i x : ℕ) → i < t.size → t.node i ≡ variable x → i < kept t
    unfolding is_block kept
    variable_kept i x h e = go (look (is_block (t.node (t.size - 1))))
      where
        go : Is (is_block (t.node (t.size - 1))) → i < t.size - pick (is_block (t.node (t.size - 1))) 1 0
        go (is_true b) =
            let p = pick_yes {A = ℕ} (is_block (t.node (t.size - 1))) 1 0 b in
            let n : i ≡ t.size - 1 → ⊥ = λ s. clash (subst (λ k. is_block (t.node k) ≡ true) (sym s) b) (ap is_block e) in omega arith
        go (is_false b) = omega (arith, pick_no {A = ℕ} (is_block (t.node (t.size - 1))) 1 0 b)

-- a table without blocks binds nothing
plain_binder : (ns : List Node) → Plain ns → (i x : ℕ) → binder (list_table ns) i x ≡ (list_table ns).size
unfolding binder list_table
plain_binder ns plain i x = lowest_none _ (length ns) (λ b h. rw (plain b h) refl)

module _ (t : Table) (tree : Tree t) (filled : NoEmptyBlocks t) (x : ℕ) where
  form_table : free (list_table (prenex_nodes t)) x ≡ true → binds (prefix_blocks t) x ≡ false → free t x ≡ true
  unfolding list_table
  form_table h n =
      let s = free_stands (list_table (prenex_nodes t)) (prenex_tree t tree filled) x h in
      let r : Source t x = subst (Sourced t) s.variable_is (prenex_sourced t tree s.node) in
      go r
    where
      go : Source t x → free t x ≡ true
      go (of_table_lem s) = stands_free t tree x s
      go (of_prefix b) = clash b n

  table_form : free t x ≡ true → free (list_table (prenex_nodes t)) x ≡ true
  unfolding list_table prenex_nodes renamed
  table_form h =
      let s = free_stands t tree x h in
      let r = first_at_lem t tree (levels t) s.node (variable_kept t tree s.node x s.within s.variable_is) in
      let e : renamed t s.node (t.node s.node) ≡ variable x
      = ap (renamed t s.node) s.variable_is ∙ ap variable (new_name-free t s.node x s.unbound) in
      stands_free (list_table (prenex_nodes t)) (prenex_tree t tree filled) x
      (record { node = s.node; within = r.0; variable_is = r.1 ∙ e; unbound = plain_binder (prenex_nodes t) (prenex_plain t tree) s.node x })

table_unbound : (t : Table) → Tree t → (x : ℕ) → free t x ≡ true → binds (prefix_blocks t) x ≡ false
unfolding written_variables
table_unbound t tree x h =
    let s = free_stands t tree x h in
    absent _ (λ b.
    let m : mem x (written_variables t) ≡ true = sym (binds_mem (prefix_blocks t) x) ∙ b in
    omega (arith, prefix_new t tree x m, variable_le t s.node x s.within s.variable_is))

-- The written form has the table's free variables.
pub same_free : (t : Table) → Proper t → NoEmptyBlocks t → (x : ℕ)
    → form_free (written_nodes t) (written_prefix t) (written_variables t) x ≡ free t x
unfolding form_free
same_free t proper filled x =
    let tree = proper.tree in
    rw (prefix_read t, written_table t tree)
    (same_test _ _
    (λ h. form_table t tree filled x (and_left _ _ h) (and_not (free (list_table (prenex_nodes t)) x) _ h))
    (λ h. and_both _ _ (table_form t tree filled x h) (ap not (table_unbound t tree x h))))
