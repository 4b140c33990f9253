-- The prenex form of a table has the table's truth value under every valuation (document 01, "Truth and size").
-- Assumes nothing.
use mathlib.Core.Path.{◌≡◌, refl, sym, ◌∙◌, ap, fun_ext}
use mathlib.Core.Bool.{Bool, true, false}
use mathlib.Core.List.{List, [], ◌∷◌, ◌++◌, flat_map}
use Prim.Native.Nat.{ℕ, zero, suc, ◌-◌, ◌<◌}
use native.Mathlib.Omega.{arith}
use lib.Dec.{eqb, ltb}
use lib.ListN.{drop}
use borrow.Author.Tests.{eqb-true, ltb-true, ltb-false}
use Rattle.lists.specs.Choice.{pick, pick_yes, pick_no, Is, is_true, is_false, look, clash, and_left, absent}
use Rattle.lists.specs.Members.{mem}
use Rattle.lists.specs.Parts.{up_to, numbers}
use Rattle.lists.proofs.Members.{mem_head}
use Rattle.lists.proofs.Parts.{term_le}
use Rattle.formula.specs.Node.{Table, is_block}
use Rattle.formula.specs.Tree.{Tree, Proper, NoEmptyBlocks, count}
use Rattle.formula.specs.Valuation.{Valuation, quant}
use Rattle.formula.specs.Truth.{truth}
use Rattle.formula.specs.Form.{Block, quantify, form_truth}
use Rattle.formula.proofs.Quantify.{quant_append, quant_cong, quantify_append}
use Rattle.prenex_form.specs.Scope.{inner}
use Rattle.prenex_form.specs.Names.{first_name, new_names, copies}
use Rattle.prenex_form.specs.Levels.{blocks_at, levels, quantifier_at, level_quantifier}
use Rattle.prenex_form.specs.Matrix.{kept, written_nodes}
use Rattle.prenex_form.specs.Prefix.{block_count, leading, prefix_block, prefix_blocks, written_prefix, written_variables}
use Rattle.prenex_form.proofs.Cut.{value_at, matrix_at}
use Rattle.prenex_form.proofs.Paths.{root_outer, level_le_levels, blocks_at-lt, blocks_at-inner, blocks_at-level, level_nonempty, root_body}
use Rattle.prenex_form.proofs.NameLaws.{none_bound}
use Rattle.prenex_form.proofs.Renaming.{renamed_truth}
use Rattle.prenex_form.proofs.Seen.{value_real}
use Rattle.prenex_form.proofs.Exchange.{exchange}
use Rattle.prenex_form.proofs.PrefixNames.{prefix_read}
use Rattle.prenex_form.proofs.WrittenOrder.{matrix_truth_lem}

quantify_cong : (bs : List Block) (f g : Valuation → Bool) (v : Valuation) → ((u : Valuation) → f u ≡ g u) → quantify bs f v ≡ quantify bs g v
quantify_cong bs f g v h = ap (λ k. quantify bs k v) (fun_ext h)

empty : (xs : List ℕ) → ((x : ℕ) → mem x xs ≡ true → ⊥) → xs ≡ []
empty [] h = refl
empty (x ∷ xs) h = absurd (h x (mem_head x xs))

module _ (t : Table) (tree : Tree t) where
  -- the matrix after j levels, under what the form binds for the last of them
  bound_matrix : ℕ → Valuation → Bool
  bound_matrix j = quant (level_quantifier t j) (leading t j) (matrix_at t j j)

  -- one block of the prefix
  one_block : (j : ℕ) (v : Valuation) → quantify (prefix_block t j ∷ []) (bound_matrix (suc j)) v ≡ bound_matrix j v
  unfolding quantify prefix_block bound_matrix level_quantifier
  one_block j v =
      let q = level_quantifier t j in
      let cs = flat_map (copies t) (blocks_at t (suc j)) in
      quant_append q (leading t j) cs (bound_matrix (suc j)) v
      ∙ quant_cong q (leading t j) (quant q cs (bound_matrix (suc j))) (matrix_at t j j) v (λ u. sym (exchange t tree j u))

  -- so many blocks from one on: g counts up from it
  blocks_from_lem : (g : ℕ → ℕ) → ((i : ℕ) → g (suc i) ≡ suc (g i)) → (k : ℕ) (v : Valuation)
      → quantify (up_to (λ i. prefix_block t (g i) ∷ []) k) (bound_matrix (g k)) v ≡ bound_matrix (g 0) v
  unfolding up_to quantify
  blocks_from_lem g next zero v = refl
  blocks_from_lem g next (suc k) v =
      let bs = up_to (λ i. prefix_block t (g i) ∷ []) k in
      quantify_append bs (prefix_block t (g k) ∷ []) (bound_matrix (g (suc k))) v
      ∙ quantify_cong bs (quantify (prefix_block t (g k) ∷ []) (bound_matrix (g (suc k)))) (bound_matrix (g k)) v (λ u. rw (next k) (one_block (g k) u))
      ∙ blocks_from_lem g next k v

  -- below the deepest level there is nothing to bind
  pub none_deeper : blocks_at t (suc (levels t)) ≡ []
  none_deeper =
      empty (blocks_at t (suc (levels t)))
      (λ i m. omega (arith, blocks_at-level t tree (suc (levels t)) i m, level_le_levels t tree i (blocks_at-lt t tree (suc (levels t)) i m)))

  deepest : (v : Valuation) → matrix_at t (levels t) (levels t) v ≡ bound_matrix (suc (levels t)) v
  unfolding quant flat_map bound_matrix level_quantifier
  deepest v =
      exchange t tree (levels t) v
      ∙ ap (λ is. quant (level_quantifier t (levels t)) (flat_map (copies t) is) (bound_matrix (suc (levels t))) v) none_deeper

  -- at the root
  root_other : is_block (t.node (t.size - 1)) ≡ false → kept t ≡ t.size
  unfolding kept
  root_other b = omega (arith, pick_no {A = ℕ} (is_block (t.node (t.size - 1))) 1 0 b)

  root_names : is_block (t.node (t.size - 1)) ≡ false → new_names t (t.size - 1) ≡ []
  unfolding new_names count numbers
  root_names b = ap (numbers (first_name t (t.size - 1))) (none_bound (t.node (t.size - 1)) b)

  root_value : (v : Valuation) → Is (is_block (t.node (t.size - 1))) → bound_matrix 0 v ≡ value_at t 0 (t.size - 1) v
  unfolding bound_matrix level_quantifier leading matrix_at quant
  root_value v (is_true b) =
      let k = tree.nonempty in
      ap (λ a. quant (quantifier_at (t.node (t.size - 1))) (new_names t (t.size - 1)) (value_at t 0 a) v)
      (sym (root_body t tree (t.size - 1) (omega arith) b))
      ∙ sym (value_real t tree 0 (t.size - 1) (omega arith) b (rw (root_outer t tree) refl) v)
  root_value v (is_false b) =
      ap (λ xs. quant (quantifier_at (t.node (t.size - 1))) xs (value_at t 0 (kept t - 1)) v) (root_names b)
      ∙ ap (λ n. value_at t 0 (n - 1) v) (root_other b)

  -- without blocks
  pub no_block : block_count t ≡ 0 → (i : ℕ) → i < t.size → is_block (t.node i) ≡ false
  unfolding block_count
  no_block e i h =
      absent _ (λ b. omega (arith, term_le (λ j. pick (is_block (t.node j)) 1 0) t.size i h, pick_yes {A = ℕ} (is_block (t.node i)) 1 0 b))

  pub no_level : block_count t ≡ 0 → Is (ltb 0 (levels t)) → levels t ≡ 0
  unfolding inner
  no_level e (is_true p) =
      let r = level_nonempty t tree (levels t) (ltb-true _ _ p) (omega arith) in
      clash (and_left _ _ (blocks_at-inner t tree (levels t) r.0 r.1)) (no_block e r.0 (blocks_at-lt t tree (levels t) r.0 r.1))
  no_level e (is_false p) = omega (arith, ltb-false 0 (levels t) p)

  plain_truth : block_count t ≡ 0 → (v : Valuation) → matrix_at t (levels t) (levels t) v ≡ value_at t 0 (t.size - 1) v
  unfolding matrix_at
  plain_truth e v =
      let h = tree.nonempty in
      ap (λ l. matrix_at t l l v) (no_level e (look (ltb 0 (levels t))))
      ∙ ap (λ n. value_at t 0 (n - 1) v) (root_other (no_block e (t.size - 1) (omega arith)))

  -- the prefix around the matrix is the renamed table
  pub prefix_truth : (v : Valuation) → quantify (prefix_blocks t) (matrix_at t (levels t) (levels t)) v ≡ value_at t 0 (t.size - 1) v
  unfolding prefix_blocks quantify
  prefix_truth v = go (look (eqb (block_count t) 0))
    where
      bs : List Block
      bs = up_to (λ j. prefix_block t j ∷ []) (suc (levels t))

      go : Is (eqb (block_count t) 0) → quantify (pick (eqb (block_count t) 0) [] bs) (matrix_at t (levels t) (levels t)) v ≡ value_at t 0 (t.size - 1) v
      go (is_true e) = rw (pick_yes _ [] bs e) (plain_truth (eqb-true _ _ e) v)
      go (is_false e) =
          rw (pick_no _ [] bs e)
          (quantify_cong bs (matrix_at t (levels t) (levels t)) (bound_matrix (suc (levels t))) v deepest
          ∙ blocks_from_lem (λ i. i) (λ i. refl) (suc (levels t)) v
          ∙ root_value v (look (is_block (t.node (t.size - 1)))))

  -- what stands behind block 0 of the prefix
  pub later : ℕ → List Block
  later k = up_to (λ i. prefix_block t (suc i) ∷ []) k

  prefix_first : (k : ℕ) → up_to (λ i. prefix_block t i ∷ []) (suc k) ≡ prefix_block t 0 ∷ later k
  unfolding up_to later
  prefix_first zero = refl
  prefix_first (suc k) = ap (λ (bs : List Block). bs ++ (prefix_block t (suc k) ∷ [])) (prefix_first k)

  -- a table with a block
  module _ (i : ℕ) (h : i < t.size) (b : is_block (t.node i) ≡ true) where
    pub prefix_starts : prefix_blocks t ≡ prefix_block t 0 ∷ later (levels t)
    unfolding prefix_blocks
    prefix_starts =
        pick_no _ _ _ (absent _ (λ e. clash b (no_block (eqb-true _ _ e) i h))) ∙ prefix_first (levels t)

    -- The matrix before any level is the rest of the form behind block 0, under the copies of level 1: what stands at the end of block 0.
    pub rest_exchange : (v : Valuation)
        → quant (level_quantifier t 0) (flat_map (copies t) (blocks_at t 1)) (quantify (drop 1 (prefix_blocks t)) (matrix_at t (levels t) (levels t))) v
        ≡ matrix_at t 0 0 v
    unfolding bound_matrix level_quantifier later
    rest_exchange v =
        let rest = quantify (drop 1 (prefix_blocks t)) (matrix_at t (levels t) (levels t)) in
        let cs = flat_map (copies t) (blocks_at t 1) in
        quant_cong (level_quantifier t 0) cs rest (bound_matrix 1) v
        (λ u.
        ap (λ (bs : List Block). quantify (drop 1 bs) (matrix_at t (levels t) (levels t)) u) prefix_starts
        ∙ quantify_cong (later (levels t)) (matrix_at t (levels t) (levels t)) (bound_matrix (suc (levels t))) u deepest
        ∙ blocks_from_lem suc (λ i. refl) (levels t) u)
        ∙ sym (exchange t tree 0 v)

-- The written form has the table's truth value.
pub same_truth : (t : Table) → Proper t → NoEmptyBlocks t → (v : Valuation)
    → form_truth (written_nodes t) (written_prefix t) (written_variables t) v ≡ truth t v
unfolding form_truth
same_truth t proper filled v =
    rw (prefix_read t)
    (quantify_cong (prefix_blocks t) _ (matrix_at t (levels t) (levels t)) v (matrix_truth_lem t proper.tree filled)
    ∙ prefix_truth t proper.tree v
    ∙ sym (renamed_truth t proper v))
