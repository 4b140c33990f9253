-- Equal forms come of interchangeable tables alone (request S-12).
-- Assumes nothing.
use mathlib.Core.Path.{◌≡◌, refl, sym, ◌∙◌, ap}
use mathlib.Core.Bool.{true, false, ◌||◌}
use mathlib.Core.List.{List, [], ◌∷◌, flat_map}
use Prim.Native.Nat.{ℕ, ◌+◌, ◌-◌, ◌≤◌, ◌<◌}
use native.Mathlib.Omega.{arith}
use lib.Dec.{ltb}
use lib.ListN.{length, length-append}
use lib.Seq.{ext_get_or}
use borrow.Author.Tests.{eqb-true, ltb-true, ltb-false}
use Rattle.lists.specs.Choice.{pick, pick_yes, pick_no, Is, is_true, is_false, look, clash, absent, same_test, or_cases, or_neither_left, or_neither_right}
use Rattle.lists.specs.Members.{mem, place}
use Rattle.lists.proofs.Members.{mem_head, mem_tail}
use Rattle.lists.proofs.Parts.{sum_cong, pick_le, term_le}
use Rattle.formula.specs.Node.{Node, constant, variable, negation, operator, block, Table, is_block, bound}
use Rattle.formula.specs.Words.{node_count, node_at, table_of}
use Rattle.formula.specs.Form.{Block, blocks_of}
use Rattle.formula.specs.Tree.{Tree, NoEmptyBlocks, count, bound_below}
use Rattle.acceptance.proofs.Accepted.{accepted_holds}
use Rattle.prenex_form.specs.Scope.{binder}
use Rattle.prenex_form.specs.Names.{highest_number, bound_count, first_name, new_names, new_name, copies}
use Rattle.prenex_form.specs.Levels.{blocks_at, quantifier_at, level_quantifier}
use Rattle.prenex_form.specs.Matrix.{kept, renamed, body_of, prenex_nodes, written_nodes}
use Rattle.prenex_form.specs.Prefix.{leading, prefix_block, prefix_blocks, written_variables}
use Rattle.prenex_form.proofs.Paths.{kept_le, kept_inner, inner_block, binder_le, binder_block, root_body}
use Rattle.prenex_form.proofs.NameLaws.{binds_block, length-new_names, length_copies, variable_le, new_names-above, new_names_apart, new_name-free, new_name-bound}
use Rattle.prenex_form.proofs.NodeLists.{words_read, words_count}
use Rattle.prenex_form.proofs.PrefixNames.{prefix_read, prefix_entries}
use Rattle.prenex_form.proofs.WrittenOrder.{prenex_plain}
use Rattle.prenex_form.proofs.Written.{kept_ge}
use Rattle.prenex_form.proofs.Truth.{no_block}
use Rattle.prenex.specs.Outcome.{FormBuffers}
use Rattle.alpha_equivalence.specs.AlphaEquivalence.{unnamed, is_bound_at, SameVariable, AlphaEquivalent}
use Rattle.alpha_equivalence.specs.Lifts.{OnlyInterchangeable}
use Rattle.alpha_equivalence.proofs.Congruence.{count_unseen}
use Rattle.alpha_equivalence.proofs.Decoding.{block_same, quantifier_same, kept_same, renamed_same, SameBlock, inner_told, first_level}
use Rattle.alpha_equivalence.proofs.UniqueHighest.{listed_highest, same_highest_of}

-- nodes that agree without their numbers
block_unnamed : (nd nd' : Node) → is_block nd ≡ true → is_block nd' ≡ true → quantifier_at nd ≡ quantifier_at nd'
    → length (bound nd) ≡ length (bound nd') → body_of nd ≡ body_of nd' → unnamed nd ≡ unnamed nd'
unfolding is_block quantifier_at bound body_of unnamed
block_unnamed (block q xs a) (block q' xs' a') h h' e l d = rw (e, l, d)
block_unnamed (block q xs a) (constant b) h h' e l d = clash h' refl
block_unnamed (block q xs a) (variable x) h h' e l d = clash h' refl
block_unnamed (block q xs a) (negation b) h h' e l d = clash h' refl
block_unnamed (block q xs a) (operator f b c) h h' e l d = clash h' refl
block_unnamed (constant b) nd' h h' e l d = clash h refl
block_unnamed (variable x) nd' h h' e l d = clash h refl
block_unnamed (negation a) nd' h h' e l d = clash h refl
block_unnamed (operator f a b) nd' h h' e l d = clash h refl

renamed_unnamed : (t : Table) (i : ℕ) (nd : Node) → is_block nd ≡ false → unnamed (renamed t i nd) ≡ unnamed nd
unfolding is_block renamed unnamed
renamed_unnamed t i (constant b) h = refl
renamed_unnamed t i (variable x) h = refl
renamed_unnamed t i (negation a) h = refl
renamed_unnamed t i (operator f a b) h = refl
renamed_unnamed t i (block q xs a) h = clash refl h

copies_length : (t u : Table) (is : List ℕ) → ((i : ℕ) → mem i is ≡ true → SameBlock t u i)
    → length (flat_map (copies t) is) ≡ length (flat_map (copies u) is)
unfolding flat_map
copies_length t u [] same = refl
copies_length t u (i ∷ is) same =
    omega (
      arith,
      length-append (copies t i) (flat_map (copies t) is),
      length-append (copies u i) (flat_map (copies u) is),
      length_copies t i,
      length_copies u i,
      (same i (mem_head i is)).same_count,
      copies_length t u is (λ j m. same j (mem_tail j i is m)),
    )

module _ (t u : Table) (tree : Tree t) (tree' : Tree u) (filled : NoEmptyBlocks t) (filled' : NoEmptyBlocks u)
    (nodes : prenex_nodes t ≡ prenex_nodes u) (blocks : prefix_blocks t ≡ prefix_blocks u) where
  root_lt : t.size - 1 < t.size
  root_lt = omega (arith, tree.nonempty)

  root_counts : is_block (t.node (t.size - 1)) ≡ true → count t (t.size - 1) ≡ count u (u.size - 1)
  unfolding prefix_block leading
  root_counts b =
      let some = absent _ (λ e. clash b (no_block t tree (eqb-true _ _ e) (t.size - 1) root_lt)) in
      let v = ap (λ (c : Block). length c.variables) (block_same t u tree tree' blocks some 0 (omega arith)) in
      let told = first_level t u tree tree' filled filled' nodes blocks in
      let l = copies_length t u (blocks_at t 1) told.each ∙ ap (λ (is : List ℕ). length (flat_map (copies u) is)) told.indices in
      omega (
        arith,
        length-append (new_names t (t.size - 1)) (flat_map (copies t) (blocks_at t 1)),
        length-append (new_names u (u.size - 1)) (flat_map (copies u) (blocks_at u 1)),
        length-new_names t (t.size - 1),
        length-new_names u (u.size - 1),
      )

  root_block : is_block (t.node (t.size - 1)) ≡ true → is_block (u.node (u.size - 1)) ≡ true
  unfolding count
  root_block b = binds_block (u.node (u.size - 1)) (omega (arith, root_counts b, filled (t.size - 1) root_lt b))

  also_block : (i : ℕ) → i < kept t → is_block (t.node i) ≡ true → is_block (u.node i) ≡ true
  also_block i h b =
      inner_block u i (inner_told t u tree tree' filled filled' nodes blocks i (omega (arith, kept_le t)) (kept_inner t i h b)).also

renamed_variable : (t : Table) (i : ℕ) (nd : Node) (x : ℕ) → nd ≡ variable x → renamed t i nd ≡ variable (new_name t i x)
unfolding renamed
renamed_variable t i nd x e = rw e

module _ (t u : Table) (tree : Tree t) (tree' : Tree u) (filled : NoEmptyBlocks t) (filled' : NoEmptyBlocks u)
    (nodes : prenex_nodes t ≡ prenex_nodes u) (blocks : prefix_blocks t ≡ prefix_blocks u) where
  first_unnamed : (i : ℕ) → i < kept t → unnamed (t.node i) ≡ unnamed (u.node i)
  unfolding count
  first_unnamed i h = go (look (is_block (t.node i)))
    where
      go : Is (is_block (t.node i)) → unnamed (t.node i) ≡ unnamed (u.node i)
      go (is_true b) =
          let told = (inner_told t u tree tree' filled filled' nodes blocks i (omega (arith, kept_le t)) (kept_inner t i h b)).block in
          block_unnamed (t.node i) (u.node i) b (also_block t u tree tree' filled filled' nodes blocks i h b)
          told.same_quantifier told.same_count told.same_body
      go (is_false b) =
          let low : i < kept u = omega (arith, kept_same t u tree tree' nodes blocks) in
          let c : is_block (u.node i) ≡ false =
          absent _ (λ c. clash (also_block u t tree' tree filled' filled (sym nodes) (sym blocks) i low c) b) in
          sym (renamed_unnamed t i (t.node i) b)
          ∙ ap unnamed (renamed_same t u tree tree' nodes blocks i h)
          ∙ renamed_unnamed u i (u.node i) c

  root_same : is_block (t.node (t.size - 1)) ≡ is_block (u.node (u.size - 1))
  root_same =
      same_test _ _ (root_block t u tree tree' filled filled' nodes blocks) (root_block u t tree' tree filled' filled (sym nodes) (sym blocks))

  size_same : t.size ≡ u.size
  unfolding kept
  size_same =
      let r : ◌≡◌ {A = ℕ} (pick (is_block (t.node (t.size - 1))) 1 0) (pick (is_block (u.node (u.size - 1))) 1 0) = rw root_same in
      let k = kept_same t u tree tree' nodes blocks in
      omega (arith, tree.nonempty, tree'.nonempty, pick_le (is_block (t.node (t.size - 1))) 1)

  -- what is not among the first nodes is a root block
  past_first : (i : ℕ) → i < t.size → kept t ≤ i → (i ≡ t.size - 1) × (is_block (t.node (t.size - 1)) ≡ true)
  unfolding kept
  past_first i h l = (omega (arith, kept_ge t), go (look (is_block (t.node (t.size - 1)))))
    where
      go : Is (is_block (t.node (t.size - 1))) → is_block (t.node (t.size - 1)) ≡ true
      go (is_true b) = b
      go (is_false b) = absurd (omega (arith, pick_no {A = ℕ} (is_block (t.node (t.size - 1))) 1 0 b))

  root_unnamed : is_block (t.node (t.size - 1)) ≡ true → unnamed (t.node (t.size - 1)) ≡ unnamed (u.node (u.size - 1))
  unfolding count level_quantifier
  root_unnamed b =
      let c = root_block t u tree tree' filled filled' nodes blocks b in
      let some = absent _ (λ e. clash b (no_block t tree (eqb-true _ _ e) (t.size - 1) (omega (arith, tree.nonempty)))) in
      block_unnamed (t.node (t.size - 1)) (u.node (u.size - 1)) b c
      (quantifier_same t u tree tree' blocks some 0 (omega arith))
      (root_counts t u tree tree' filled filled' nodes blocks b)
      (root_body t tree (t.size - 1) (omega (arith, tree.nonempty)) b
      ∙ ap (λ (k : ℕ). k - 1) (kept_same t u tree tree' nodes blocks)
      ∙ sym (root_body u tree' (u.size - 1) (omega (arith, tree'.nonempty)) c))

  all_unnamed : (i : ℕ) → i < t.size → unnamed (t.node i) ≡ unnamed (u.node i)
  all_unnamed i h = go (look (ltb i (kept t)))
    where
      go : Is (ltb i (kept t)) → unnamed (t.node i) ≡ unnamed (u.node i)
      go (is_true l) = first_unnamed i (ltb-true _ _ l)
      go (is_false l) =
          let r = past_first i h (ltb-false _ _ l) in
          let e : i ≡ u.size - 1 = omega (arith, r.0, size_same) in
          ap (λ (k : ℕ). unnamed (t.node k)) r.0 ∙ root_unnamed r.1 ∙ ap (λ (k : ℕ). unnamed (u.node k)) (sym e)

  counts_same : (i : ℕ) → i < t.size → count t i ≡ count u i
  unfolding count
  counts_same i h = sym (count_unseen (t.node i)) ∙ ap (λ nd. length (bound nd)) (all_unnamed i h) ∙ count_unseen (u.node i)

  below_same : (b : ℕ) → b ≤ t.size → bound_below t b ≡ bound_below u b
  unfolding bound_below
  below_same b h = sum_cong (count t) (count u) b (λ i l. counts_same i (omega arith))

  -- the new name of a variable node
  name_same : (i x y : ℕ) → i < t.size → t.node i ≡ variable x → u.node i ≡ variable y → new_name t i x ≡ new_name u i y
  unfolding is_block
  name_same i x y h e d = go (look (ltb i (kept t)))
    where
      go : Is (ltb i (kept t)) → new_name t i x ≡ new_name u i y
      go (is_true l) =
          let v : variable (new_name t i x) ≡ variable (new_name u i y) =
          sym (renamed_variable t i (t.node i) x e) ∙ renamed_same t u tree tree' nodes blocks i (ltb-true _ _ l) ∙ renamed_variable u i (u.node i) y d in
          cc
      go (is_false l) =
          let r = past_first i h (ltb-false _ _ l) in
          clash r.1 (ap (λ (k : ℕ). is_block (t.node k)) (sym r.0) ∙ ap is_block e)

-- a variable node
module _ (t u : Table) (tree : Tree t) (tree' : Tree u) (filled : NoEmptyBlocks t) (filled' : NoEmptyBlocks u)
    (nodes : prenex_nodes t ≡ prenex_nodes u) (blocks : prefix_blocks t ≡ prefix_blocks u) (listed : written_variables t ≡ written_variables u)
    (i x y : ℕ) (h : i < t.size) (h' : i < u.size) (e : t.node i ≡ variable x) (d : u.node i ≡ variable y) where
  name : new_name t i x ≡ new_name u i y
  name = name_same t u tree tree' filled filled' nodes blocks i x y h e d

  -- where it is bound there are names, and so one highest number
  one_highest : is_bound_at t i x ≡ true → highest_number t ≡ highest_number u
  unfolding bound_count bound_below
  one_highest a =
      let l : binder t i x < t.size = ltb-true _ _ a in
      let some = filled (binder t i x) l (binder_block t tree i x l) in
      listed_highest t u tree tree' listed (omega (arith, some, term_le (count t) t.size (binder t i x) l, prefix_entries t tree))

  also_bound : is_bound_at t i x ≡ true → is_bound_at u i y ≡ true
  also_bound a = go (look (is_bound_at u i y))
    where
      go : Is (is_bound_at u i y) → is_bound_at u i y ≡ true
      go (is_true c) = c
      go (is_false c) =
          let l : binder t i x < t.size = ltb-true _ _ a in
          let out : u.size ≤ binder u i y = ltb-false _ _ c in
          let free = new_name-free u i y (omega (arith, binder_le u i y)) in
          absurd (omega (arith, one_highest a, name, free, variable_le u i y h' d, new_names-above t (binder t i x) _ (new_name-bound t i x l)))

  first_name_lem : is_bound_at t i x ≡ true → (b : ℕ) → b < t.size → first_name t b ≡ first_name u b
  unfolding first_name
  first_name_lem a b l = rw (one_highest a, below_same t u tree tree' filled filled' nodes blocks b (omega arith))

  names_of : is_bound_at t i x ≡ true → (b : ℕ) → b < t.size → new_names t b ≡ new_names u b
  unfolding new_names
  names_of a b l = rw (first_name_lem a b l, counts_same t u tree tree' filled filled' nodes blocks b l)

  block_of : is_bound_at t i x ≡ true → binder t i x ≡ binder u i y
  block_of a =
      let l : binder t i x < t.size = ltb-true _ _ a in
      let l' : binder u i y < u.size = ltb-true _ _ (also_bound a) in
      let inside : binder u i y < t.size = omega (arith, size_same t u tree tree' filled filled' nodes blocks) in
      let m : mem (new_name t i x) (new_names t (binder u i y)) ≡ true = rw (name, names_of a (binder u i y) inside) (new_name-bound u i y l') in
      new_names_apart t (binder t i x) (binder u i y) _ (new_name-bound t i x l) m

  position_of : is_bound_at t i x ≡ true → place x (bound (t.node (binder t i x))) ≡ place y (bound (u.node (binder u i y)))
  unfolding new_name
  position_of a =
      let c = also_bound a in
      let n : new_name t i x ≡ first_name t (binder t i x) + place x (bound (t.node (binder t i x))) = pick_yes _ _ _ a in
      let n' : new_name u i y ≡ first_name u (binder u i y) + place y (bound (u.node (binder u i y))) = pick_yes _ _ _ c in
      let f : first_name t (binder t i x) ≡ first_name u (binder u i y) =
      first_name_lem a (binder t i x) (ltb-true _ _ a) ∙ ap (first_name u) (block_of a) in
      omega (arith, name)

module _ (t u : Table) (tree : Tree t) (tree' : Tree u) (filled : NoEmptyBlocks t) (filled' : NoEmptyBlocks u)
    (nodes : prenex_nodes t ≡ prenex_nodes u) (blocks : prefix_blocks t ≡ prefix_blocks u) (listed : written_variables t ≡ written_variables u) where
  variable_told : (i x y : ℕ) → i < t.size → t.node i ≡ variable x → u.node i ≡ variable y → SameVariable t u i x y
  variable_told i x y h e d =
      record {
        same_number = λ o.
            let a : t.size ≤ binder t i x = ltb-false _ _ (or_neither_left (is_bound_at t i x) (is_bound_at u i y) o) in
            let c : u.size ≤ binder u i y = ltb-false _ _ (or_neither_right (is_bound_at t i x) (is_bound_at u i y) o) in
            sym (new_name-free t i x (omega (arith, binder_le t i x)))
            ∙ name t u tree tree' filled filled' nodes blocks listed i x y h low e d
            ∙ new_name-free u i y (omega (arith, binder_le u i y));
        same_block = λ o. block_of t u tree tree' filled filled' nodes blocks listed i x y h low e d (either o);
        same_position = λ o. position_of t u tree tree' filled filled' nodes blocks listed i x y h low e d (either o);
      }
    where
      low : i < u.size
      low = omega (arith, size_same t u tree tree' filled filled' nodes blocks)

      either : (is_bound_at t i x || is_bound_at u i y) ≡ true → is_bound_at t i x ≡ true
      either o =
          or_cases (is_bound_at t i x) (is_bound_at u i y) o (λ a. a)
          (also_bound u t tree' tree filled' filled (sym nodes) (sym blocks) (sym listed) i y x low h d e)

  equivalent : AlphaEquivalent t u
  equivalent =
      record {
        same_size = size_same t u tree tree' filled filled' nodes blocks;
        same_nodes = all_unnamed t u tree tree' filled filled' nodes blocks;
        same_variables = variable_told;
      }

-- the words of a form read back as its nodes
nodes_of_lem : (t u : Table) → Tree t → Tree u → written_nodes t ≡ written_nodes u → prenex_nodes t ≡ prenex_nodes u
unfolding written_nodes
nodes_of_lem t u tree tree' e =
    ext_get_or (constant false) (prenex_nodes t) (prenex_nodes u)
    (sym (words_count (prenex_nodes t)) ∙ ap node_count e ∙ words_count (prenex_nodes u))
    (λ i h. sym (words_read (prenex_nodes t) (prenex_plain t tree) i) ∙ ap (λ (ws : List ℕ). node_at ws [] i) e ∙ words_read (prenex_nodes u) (prenex_plain u tree') i)

pub only_interchangeable : OnlyInterchangeable
only_interchangeable ws ls ws' ls' h h' e =
    let t = table_of ws ls in
    let u = table_of ws' ls' in
    let a = accepted_holds ws ls h in
    let b = accepted_holds ws' ls' h' in
    let tree = a.proper.tree in
    let tree' = b.proper.tree in
    let listed : written_variables t ≡ written_variables u = ap (λ (form : FormBuffers). form.variables) e in
    let prefix = ap (λ (form : FormBuffers). blocks_of form.prefix form.variables) e in
    let alike =
    equivalent t u tree tree' (a.filled refl) (b.filled refl) (nodes_of_lem t u tree tree' (ap (λ (form : FormBuffers). form.nodes) e))
    (sym (prefix_read t) ∙ prefix ∙ prefix_read u) listed in
    record { alpha_equivalent = alike; same_highest = same_highest_of t u tree tree' (a.filled refl) alike listed }
