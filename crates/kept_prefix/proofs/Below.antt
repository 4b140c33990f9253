-- An accepted table without blocks from the root down: what is left is accepted, has under the blocks the table's truth value, and every
-- size of the table counts the blocks taken off.
-- Assumes nothing.
use mathlib.Core.Path.{◌≡◌, refl, sym, ◌∙◌, ap, subst, fun_ext}
use mathlib.Core.Bool.{Bool, true, false, ◌||◌, or-false}
use mathlib.Core.List.{List, [], ◌∷◌, ◌++◌, flat_map, append-nil}
use Prim.Native.Nat.{ℕ, zero, suc, ◌+◌, ◌-◌, ◌*◌, ◌≤◌, ◌<◌}
use native.Mathlib.Numerals.{add-one}
use native.Mathlib.Omega.{arith}
use lib.Dec.{ltb}
use lib.ListN.{length, length-append}
use lib.Seq.{length-take-le, take_all, get_or-take}
use borrow.Author.Tests.{eq-eqb, ne_eqb}
use Rattle.lists.specs.Choice.{pick, pick_yes}
use Rattle.lists.specs.Search.{some_below}
use Rattle.lists.specs.Members.{mem, all, times, distinct}
use Rattle.lists.specs.Parts.{up_to, sum, highest}
use Rattle.lists.proofs.Search.{lowest_cong, some_next}
use Rattle.lists.proofs.Members.{mem_one, times_zero}
use Rattle.lists.proofs.Parts.{sum_cong}
use Rattle.formula.specs.Node.{Quantifier, Node, block, Table, operands, is_block, bound}
use Rattle.formula.specs.Words.{width, node_count, field, is_block_kind, words_at, node_at, node_of, table_of}
use Rattle.formula.specs.declared.NodeWords.{NodeWords}
use Rattle.formula.specs.Valuation.{Valuation}
use Rattle.formula.specs.Truth.{node_value, value, truth}
use Rattle.formula.specs.Form.{Block, quantify}
use Rattle.kept_prefix.specs.Blocks.{prefix_names}
use Rattle.formula.specs.Tree.{Tree, times_named, count, bound_below}
use Rattle.formula.specs.FreeVariables.{stands_at, some_node}
use Rattle.formula.proofs.Unfolding.{value_tables, value_node}
use Rattle.formula.proofs.Quantify.{quant_cong, quantify_append}
use Rattle.formula.proofs.Nodes.{node_block}
use Rattle.refusals.specs.Verdict.{accepted}
use Rattle.acceptance.specs.Limits.{table_limits}
use Rattle.acceptance.specs.Verdict.{is_number_to, well_formed, verdict}
use Rattle.acceptance.specs.Accepted.{Accepted}
use Rattle.acceptance.proofs.Accepted.{accepted_holds, holds_accepted}
use Rattle.prenex_form.specs.Scope.{parent, path, how_many, depth}
use Rattle.prenex_form.specs.Names.{bound_count}
use Rattle.prenex_form.specs.Levels.{quantifier_at}
use Rattle.prenex_form.specs.Matrix.{body_of}
use Rattle.prenex_form.specs.Prefix.{block_count}
use Rattle.prenex_form.proofs.Paths.{kept_root, kept_positive, root_body, parent_is, parent_lt, parent_names, climb, path_root, path_step}
use Rattle.kept_prefix.specs.Leading.{block_of, from_root, outermost, words_below}
use Rattle.kept_prefix.specs.Kept.{stands}
use Rattle.kept_prefix.specs.Promise.{AllBlocks, BlocksBelow}
use Rattle.kept_prefix.proofs.Leading.{outermost_next, names_append}

-- The highest of 1 and of numbers that are all greater by 1 is greater by 1.
highest_more : (f g : ℕ → ℕ) (n : ℕ) → ((i : ℕ) → i < n → f i ≡ g i + 1) → Prim.Native.Nat.max (highest f n) 1 ≡ highest g n + 1
unfolding highest
highest_more f g zero e = refl
highest_more f g (suc n) e = omega (arith, highest_more f g n (λ i h. e i (omega arith)), e n (omega arith))

-- The blocks on the path from node i to the root.
abbrev blocks_on : Table → ℕ → ℕ
blocks_on t i = how_many (λ j. is_block (t.node j)) (path t i)

module _ (t : Table) (tree : Tree t) where
  blocks_root : (i : ℕ) → suc i ≡ t.size → blocks_on t i ≡ pick (is_block (t.node i)) 1 0
  unfolding how_many
  blocks_root i h = rw (path_root t tree i h) (omega arith)

  blocks_step : (i : ℕ) → suc i < t.size → blocks_on t i ≡ pick (is_block (t.node i)) 1 0 + blocks_on t (parent t i)
  unfolding how_many
  blocks_step i h = rw (path_step t tree i h)

-- What holds of a table t and of the table s that is left of it without k blocks bs.
record Off (t s : Table) (bs : List Block) (k : ℕ) : Type 0 where
  tree : Tree s
  truth_kept : (v : Valuation) → quantify bs (truth s) v ≡ truth t v
  blocks_less : block_count t ≡ block_count s + k
  bound_less : bound_count t ≡ bound_count s + length (prefix_names bs)
  depth_less : depth t ≡ depth s + k
  stands_kept : (x : ℕ) → stands s x ≡ stands t x

off_none : (t : Table) → Tree t → Off t t [] 0
unfolding quantify prefix_names flat_map
off_none t tree =
    record { tree = tree; truth_kept = λ v. refl; blocks_less = omega arith; bound_less = omega arith; depth_less = omega arith; stands_kept = λ x. refl }

-- One block: t is s with a block as its root over it.
module _ (t s : Table) (m : ℕ) (t_size : t.size ≡ suc m) (s_size : s.size ≡ m) (same : (i : ℕ) → i < m → t.node i ≡ s.node i)
    (tree : Tree t) (q : Quantifier) (xs : List ℕ) (a : ℕ) (root : t.node m ≡ block q xs a) where
  root_block : is_block (t.node m) ≡ true
  unfolding is_block
  root_block = ap is_block root

  -- the block's body is the root of s
  some : 0 < m
  some = omega (arith, kept_positive t tree, kept_root t m (sym t_size) root_block)

  body_is : suc a ≡ m
  unfolding body_of
  body_is =
      let e : body_of (t.node m) ≡ a = ap body_of root in
      omega (arith, some, root_body t tree m (sym t_size) root_block, kept_root t m (sym t_size) root_block)

  root_operands : operands (t.node m) ≡ a ∷ []
  unfolding operands
  root_operands = ap operands root

  -- a sum over the nodes
  sum_less : (f : Node → ℕ) → sum (λ i. f (t.node i)) t.size ≡ sum (λ i. f (s.node i)) s.size + f (t.node m)
  unfolding sum
  sum_less f =
      ap (sum (λ i. f (t.node i))) t_size
      ∙ ap (λ n. n + f (t.node m)) (sum_cong _ _ m (λ i h. ap f (same i h)) ∙ ap (sum (λ i. f (s.node i))) (sym s_size))

  tree_below : Tree s
  unfolding times_named
  tree_below =
      record {
        nonempty = omega (arith, some);
        lower = λ i x h e.
            let l : i < m = omega arith in
            tree.lower i x (omega arith) (subst (λ nd. mem x (operands nd) ≡ true) (sym (same i l)) e);
        once = λ i h.
            let z : times i (operands (t.node m)) ≡ 0 = times_zero i _ (ap (mem i) root_operands ∙ mem_one i a ∙ ne_eqb i a (λ e. omega (arith, body_is))) in
            omega (arith, tree.once i (omega arith), sum_less (λ nd. times i (operands nd)));
      }

  truth_below : (v : Valuation) → quantify (block_of (t.node m) ∷ []) (truth s) v ≡ truth t v
  unfolding quantify block_of quantifier_at bound truth node_value
  truth_below v =
      let b = body_is in
      let d : t.size - 1 ≡ m = omega arith in
      let e : s.size - 1 ≡ a = omega arith in
      let inside : (u : Valuation) → truth s u ≡ value t.size t a u =
      λ u. ap (λ i. value s.size s i u) e
      ∙ sym (value_tables t s m same (λ i x h. tree.lower i x (omega arith)) t.size s.size a (omega arith) (omega arith) (omega arith) u) in
      rw root (quant_cong q xs (truth s) (value t.size t a) v inside)
      ∙ sym (ap (λ i. value t.size t i v) d ∙ value_node t tree.lower m (omega arith) v ∙ ap (λ nd. node_value (value t.size t) nd v) root)

  -- a node of s has its parent in both tables, and in t one block more above it
  parent_same : (i : ℕ) → suc i < m → parent t i ≡ parent s i
  parent_same i h =
      let l = parent_lt s tree_below i (omega arith) in
      parent_is t tree (parent s i) i (omega arith)
      (subst (λ nd. mem i (operands nd) ≡ true) (sym (same (parent s i) (omega arith))) (parent_names s tree_below i (omega arith)))

  root_blocks_lem : blocks_on t m ≡ 1
  root_blocks_lem = blocks_root t tree m (sym t_size) ∙ pick_yes _ _ _ root_block

  blocks_more : (i : ℕ) → i < s.size → blocks_on t i ≡ blocks_on s i + 1
  blocks_more =
      climb s tree_below (λ i. blocks_on t i ≡ blocks_on s i + 1)
      (λ i h.
      let b = body_is in
      let e : i ≡ a = omega arith in
      let p : parent t i ≡ m = parent_is t tree m i (omega arith) (ap (mem i) root_operands ∙ rw e (mem_one a a ∙ eq-eqb a a refl)) in
      omega (
        arith,
        blocks_step t tree i (omega arith),
        ap (blocks_on t) p,
        root_blocks_lem,
        blocks_root s tree_below i h,
        ap (λ nd. pick {A = ℕ} (is_block nd) 1 0) (same i (omega arith)),
      ))
      (λ i h r.
      omega (
        arith,
        blocks_step t tree i (omega arith),
        ap (blocks_on t) (parent_same i (omega arith)),
        blocks_step s tree_below i h,
        ap (λ nd. pick {A = ℕ} (is_block nd) 1 0) (same i (omega arith)),
      ))

  depth_below : depth t ≡ depth s + 1
  unfolding depth highest
  depth_below =
      ap (highest (blocks_on t)) t_size
      ∙ ap (Prim.Native.Nat.max (highest (blocks_on t) m)) root_blocks_lem
      ∙ highest_more (blocks_on t) (blocks_on s) m (λ i h. blocks_more i (omega arith))
      ∙ ap (λ n. highest (blocks_on s) n + 1) (sym s_size)

  -- no number stands at a block
  stands_same : (x : ℕ) → stands s x ≡ stands t x
  unfolding stands some_node some_below stands_at
  stands_same x =
      let p : ℕ → Bool = λ i. stands_at x (t.node i) in
      let none : p m ≡ false = ap (stands_at x) root in
      sym
      (ap (some_below p) (t_size ∙ sym (add-one m))
      ∙ some_next p m
      ∙ ap (λ b. some_below p m || b) none
      ∙ or-false (some_below p m)
      ∙ ap (λ n. ltb n m) (lowest_cong p (λ i. stands_at x (s.node i)) m (λ i h. ap (stands_at x) (same i h)))
      ∙ ap (some_below (λ i. stands_at x (s.node i))) (sym s_size))

  off_one_more : (u : Table) (bs : List Block) (k : ℕ) → Off u t bs k → Off u s (bs ++ (block_of (t.node m) ∷ [])) (suc k)
  unfolding block_count bound_count bound_below count prefix_names flat_map block_of
  off_one_more u bs k o =
      let b = block_of (t.node m) in
      record {
        tree = tree_below;
        truth_kept = λ v.
            quantify_append bs (b ∷ []) (truth s) v ∙ ap (λ f. quantify bs f v) (fun_ext truth_below) ∙ o.truth_kept v;
        blocks_less = omega (arith, o.blocks_less, sum_less (λ nd. pick (is_block nd) 1 0), pick_yes {A = ℕ} _ 1 0 root_block);
        bound_less = omega (
          arith,
          o.bound_less,
          sum_less (λ nd. length (bound nd)),
          ap length (names_append bs (b ∷ []) ∙ ap (◌++◌ (prefix_names bs)) (append-nil (bound (t.node m)))),
          length-append (prefix_names bs) (bound (t.node m)),
        );
        depth_less = omega (arith, o.depth_less, depth_below);
        stands_kept = λ x. stands_same x ∙ o.stands_kept x;
      }

-- Without 0 blocks nothing is cut, and the words below a cut are those of the table.
pub below_none : (ws : List ℕ) → length ws ≡ width * node_count ws → words_below 0 ws ≡ ws
unfolding words_below
below_none ws whole = take_all (width * (node_count ws - 0)) ws (omega arith)

module _ (ws ls : List ℕ) (a : Accepted ws ls) (k : ℕ) (within : k ≤ node_count ws) where
  length_below : length (words_below k ws) ≡ width * (node_count ws - k)
  unfolding words_below
  length_below = length-take-le _ ws (omega (arith, a.whole))

  pub count_below : node_count (words_below k ws) ≡ node_count ws - k
  count_below = omega (arith, length_below)

  field_below : (i f : ℕ) → i < node_count ws - k → f < width → field (words_below k ws) i f ≡ field ws i f
  unfolding field words_below
  field_below i f h l = get_or-take (width * (node_count ws - k)) ws (width * i + f) 0 (omega arith)

  words_below_lem : (i : ℕ) → i < node_count ws - k → words_at (words_below k ws) i ≡ words_at ws i
  words_below_lem i h =
      rw (field_below i 0 h (omega arith), field_below i 1 h (omega arith), field_below i 2 h (omega arith), field_below i 3 h (omega arith))

  pub node_below : (i : ℕ) → i < node_count ws - k → node_at (words_below k ws) ls i ≡ node_at ws ls i
  unfolding node_at
  node_below i h = ap (node_of ls) (words_below_lem i h)

  -- all that is asked of each node for itself holds below the cut too
  accepted_below : Off (table_of ws ls) (table_of (words_below k ws) ls) (outermost (table_of ws ls) k) k → Accepted (words_below k ws) ls
  unfolding table_of count bound_count
  accepted_below o =
      let c = count_below in
      let inside : (i : ℕ) → i < node_count (words_below k ws) → i < node_count ws - k = λ i h. omega arith in
      let lower : (i : ℕ) → i < node_count (words_below k ws) → i < node_count ws = λ i h. omega arith in
      record {
        whole = omega (arith, length_below);
        proper = record { tree = o.tree; apart = λ i h. ap (λ nd. distinct (bound nd)) (node_below i (inside i h)) ∙ a.proper.apart i (lower i h) };
        nodes_limit = omega (arith, a.nodes_limit);
        list_limit = a.list_limit;
        counts_limit = omega (arith, o.bound_less, a.counts_limit);
        formed = λ i h. ap (well_formed table_limits) (words_below_lem i (inside i h)) ∙ a.formed i (lower i h);
        fits = λ i h b.
            let e = words_below_lem i (inside i h) in
            omega (
              arith,
              a.fits i (lower i h) (ap (λ (w : NodeWords). is_block_kind w.kind) (sym e) ∙ b),
              ap (λ (w : NodeWords). w.a) e,
              ap (λ (w : NodeWords). w.b) e,
            );
        filled = λ e i h b.
            let n = node_below i (inside i h) in
            subst (λ nd. 0 < length (bound nd)) (sym n) (a.filled e i (lower i h) (ap is_block (sym n) ∙ b));
        numbered = λ i h. ap (λ nd. all (is_number_to table_limits.highest) (bound nd)) (node_below i (inside i h)) ∙ a.numbered i (lower i h);
      }

-- One block more.
off_next : (ws ls : List ℕ) (k : ℕ) → Accepted ws ls → suc k ≤ node_count ws → is_block (from_root (table_of ws ls) k) ≡ true
    → Off (table_of ws ls) (table_of (words_below k ws) ls) (outermost (table_of ws ls) k) k
    → Off (table_of ws ls) (table_of (words_below (suc k) ws) ls) (outermost (table_of ws ls) (suc k)) (suc k)
unfolding table_of from_root
off_next ws ls k a h b o =
    let t = table_of ws ls in
    let r = table_of (words_below k ws) ls in
    let s = table_of (words_below (suc k) ws) ls in
    let m = node_count ws - suc k in
    let r_size : node_count (words_below k ws) ≡ suc m = omega (arith, count_below ws ls a k (omega arith)) in
    let same : (i : ℕ) → i < m → r.node i ≡ s.node i = λ i l. node_below ws ls a k (omega arith) i (omega arith) ∙ sym (node_below ws ls a (suc k) h i l) in
    let last : r.node m ≡ t.node m = node_below ws ls a k (omega arith) m (omega arith) in
    subst (λ bs. Off t s bs (suc k)) (ap (λ nd. outermost t k ++ (block_of nd ∷ [])) last ∙ sym (outermost_next t k))
    (off_one_more r s m r_size (count_below ws ls a (suc k) h) same o.tree _ _ _ (last ∙ node_block ws ls m b) t (outermost t k) k o)

off : (ws ls : List ℕ) (k : ℕ) → Accepted ws ls → k ≤ node_count ws → AllBlocks (table_of ws ls) k
    → Off (table_of ws ls) (table_of (words_below k ws) ls) (outermost (table_of ws ls) k) k
unfolding outermost up_to
off ws ls zero a h bs =
    subst (λ us. Off (table_of ws ls) (table_of us ls) [] 0) (sym (below_none ws a.whole)) (off_none (table_of ws ls) a.proper.tree)
off ws ls (suc k) a h bs = off_next ws ls k a h (bs k (omega arith)) (off ws ls k a (omega arith) (λ j l. bs j (omega arith)))

pub blocks_below : BlocksBelow
blocks_below ws ls k e h bs =
    let a = accepted_holds ws ls e in
    let o = off ws ls k a h bs in
    record {
      accepts = holds_accepted (words_below k ws) ls (accepted_below ws ls a k h o);
      truth_kept = o.truth_kept;
      nodes_less = omega (arith, count_below ws ls a k h);
      blocks_less = o.blocks_less;
      bound_less = o.bound_less;
      depth_less = o.depth_less;
    }

-- The nodes taken off are no variable nodes: the same numbers stand in what is left.
pub stands_below_lem : (ws ls : List ℕ) (k : ℕ) → verdict ws ls ≡ accepted → k ≤ node_count ws → AllBlocks (table_of ws ls) k
    → (x : ℕ) → stands (table_of (words_below k ws) ls) x ≡ stands (table_of ws ls) x
stands_below_lem ws ls k e h bs = (off ws ls k (accepted_holds ws ls e) h bs).stands_kept
