-- What the value of a node at a cut depends on.
-- Assumes nothing.
use mathlib.Core.Path.{◌≡◌, refl, sym, ◌∙◌, ap, ap₂, subst}
use mathlib.Core.Bool.{Bool, true, false, not, ◌&&◌, ◌||◌, beq}
use mathlib.Core.List.{List, [], ◌∷◌}
use Prim.Native.Nat.{ℕ, zero, suc, ◌-◌, ◌≤◌, ◌<◌}
use native.Mathlib.Omega.{arith}
use lib.Dec.{eqb, ltb, leb}
use borrow.Author.Tests.{ltb-true, ltb-false, eqb-true, eq-eqb, leb-true, le-leb}
use Rattle.lists.specs.Choice.{pick, pick_yes, pick_no, Is, is_true, is_false, look, clash, and_left, and_right, and_both, or_right, or_cases}
use Rattle.lists.specs.Members.{mem, all}
use Rattle.lists.proofs.Members.{mem_one, mem_head, mem_tail}
use Rattle.formula.specs.Node.{Node, constant, variable, negation, operator, block, Table, operands, is_block}
use Rattle.formula.specs.Tree.{Tree}
use Rattle.formula.specs.Valuation.{Valuation, quant}
use Rattle.formula.specs.Truth.{operator_value, node_value}
use Rattle.formula.specs.Meaning.{DiffersAtMostAt}
use Rattle.formula.proofs.Quantify.{Inside, quant_same}
use Rattle.formula.proofs.Unfolding.{Lower, value_node}
use Rattle.prenex_form.specs.Scope.{parent, path, above, binder, inner, level}
use Rattle.prenex_form.specs.Names.{highest_number, new_name, new_names, copies, definition_variable}
use Rattle.prenex_form.specs.Levels.{blocks_at, quantifier_at, level_quantifier}
use Rattle.prenex_form.specs.Matrix.{kept, body_of}
use Rattle.prenex_form.proofs.Cut.{cut_node, cut, value_at, agree, guarded, holds, block_holds, joined, matrix_at}
use Rattle.prenex_form.proofs.Paths.{body_named, binder_le, parent_is, climb, path_root, path_step, path_self, above_root, above_step, above_cases, binder_block, binder_above, level_root, above_level, above_level_le, blocks_at-lt, blocks_at-inner, blocks_at-level, root_body, inner_block}
use Rattle.prenex_form.proofs.NameLaws.{variable_le, new_name-free, new_name-bound, new_names-above, new_names-le, copies_above, copies_le, definition_above, new_names_apart, copies_apart}

-- the nodes of a cut: nothing but blocks is changed, a block to a definition variable or to a block with its new names
cut_definition : (t : Table) (c i : ℕ) (nd : Node) → is_block nd ≡ true → (inner t i && leb (level t i) c) ≡ true → cut_node t c i nd ≡ variable (definition_variable t i)
unfolding cut_node is_block
cut_definition t c i (constant b) h e = clash h refl
cut_definition t c i (variable x) h e = clash h refl
cut_definition t c i (negation a) h e = clash h refl
cut_definition t c i (operator f a b) h e = clash h refl
cut_definition t c i (block q xs a) h e = pick_yes _ _ _ e

cut_real : (t : Table) (c i : ℕ) (nd : Node) → is_block nd ≡ true → (inner t i && leb (level t i) c) ≡ false
    → cut_node t c i nd ≡ block (quantifier_at nd) (new_names t i) (body_of nd)
unfolding cut_node is_block quantifier_at body_of
cut_real t c i (constant b) h e = clash h refl
cut_real t c i (variable x) h e = clash h refl
cut_real t c i (negation a) h e = clash h refl
cut_real t c i (operator f a b) h e = clash h refl
cut_real t c i (block q xs a) h e = pick_no _ _ _ e

cut_operands : (t : Table) (c i a : ℕ) (nd : Node) → mem a (operands (cut_node t c i nd)) ≡ true → mem a (operands nd) ≡ true
unfolding cut_node operands mem
cut_operands t c i a (constant b) m = m
cut_operands t c i a (variable x) m = m
cut_operands t c i a (negation b) m = m
cut_operands t c i a (operator f b d) m = m
cut_operands t c i a (block q xs b) m = go (look (inner t i && leb (level t i) c))
  where
    go : Is (inner t i && leb (level t i) c) → mem a (b ∷ []) ≡ true
    go (is_true e) =
        clash (subst (λ nd. mem a (operands nd) ≡ true) (pick_yes _ (variable (definition_variable t i)) (block q (new_names t i) b) e) m) refl
    go (is_false e) =
        subst (λ nd. mem a (operands nd) ≡ true) (pick_no _ (variable (definition_variable t i)) (block q (new_names t i) b) e) m

-- the value of a node that is no block, at two cuts and two valuations
node_alike : (t : Table) (c d i : ℕ) (nd : Node) → is_block nd ≡ false → (v u : Valuation)
    → ((x : ℕ) → nd ≡ variable x → v (new_name t i x) ≡ u (new_name t i x))
    → ((a : ℕ) → mem a (operands nd) ≡ true → value_at t c a v ≡ value_at t d a u)
    → node_value (value_at t c) (cut_node t c i nd) v ≡ node_value (value_at t d) (cut_node t d i nd) u
unfolding cut_node node_value operands is_block
node_alike t c d i (constant b) h v u names rest = refl
node_alike t c d i (variable x) h v u names rest = names x refl
node_alike t c d i (negation a) h v u names rest = ap not (rest a (mem_head a []))
node_alike t c d i (operator f a b) h v u names rest =
    ap₂ (operator_value f) (rest a (mem_head a (b ∷ []))) (rest b (mem_tail b a (b ∷ []) (mem_head b [])))
node_alike t c d i (block q xs a) h v u names rest = clash refl h

module _ (t : Table) (tree : Tree t) where
  cut_lower : (c : ℕ) → Lower (cut t c).node t.size
  unfolding cut
  cut_lower c i a h m = tree.lower i a h (cut_operands t c i a (t.node i) m)

  -- the value of a node at a cut, from those of its operands
  pub value_cut : (c i : ℕ) → i < t.size → (v : Valuation) → value_at t c i v ≡ node_value (value_at t c) (cut_node t c i (t.node i)) v
  unfolding value_at cut
  value_cut c i h v = value_node (cut t c) (cut_lower c) i h v

  -- the value of a block that is read as its definition variable, and of a real one
  pub value_definition : (c i : ℕ) → i < t.size → inner t i ≡ true → level t i ≤ c → (v : Valuation) → value_at t c i v ≡ v (definition_variable t i)
  unfolding node_value
  value_definition c i h n l v =
      value_cut c i h v
      ∙ ap (λ nd. node_value (value_at t c) nd v) (cut_definition t c i (t.node i) (inner_block t i n) (and_both _ _ n (le-leb (level t i) c l)))

  pub value_real : (c i : ℕ) → i < t.size → is_block (t.node i) ≡ true → (inner t i && leb (level t i) c) ≡ false → (v : Valuation)
      → value_at t c i v ≡ quant (quantifier_at (t.node i)) (new_names t i) (value_at t c (body_of (t.node i))) v
  unfolding node_value
  value_real c i h b e v = value_cut c i h v ∙ ap (λ nd. node_value (value_at t c) nd v) (cut_real t c i (t.node i) b e)

  -- Two cuts c and d and two valuations: nodes have the same value wherever the relation `alike` holds, if it makes variable nodes and
  -- blocks alike and passes from other nodes to their operands.
  module _ (c d : ℕ) (alike : ℕ → Valuation → Valuation → Type 0)
      (names : (i x : ℕ) (v u : Valuation) → i < t.size → t.node i ≡ variable x → alike i v u → v (new_name t i x) ≡ u (new_name t i x))
      (down : (i a : ℕ) (v u : Valuation) → i < t.size → is_block (t.node i) ≡ false → mem a (operands (t.node i)) ≡ true → alike i v u → alike a v u)
      (blocks : (i : ℕ) (v u : Valuation) → i < t.size → is_block (t.node i) ≡ true
      → ((v' u' : Valuation) → alike (body_of (t.node i)) v' u' → value_at t c (body_of (t.node i)) v' ≡ value_at t d (body_of (t.node i)) u')
      → alike i v u → value_at t c i v ≡ value_at t d i u) where
    along_from : (f i : ℕ) → i < f → i < t.size → (v u : Valuation) → alike i v u → value_at t c i v ≡ value_at t d i u
    along_from zero i k h v u r = absurd (omega arith)
    along_from (suc f) i k h v u r =
        go (look (is_block (t.node i))) (λ a m. let l = tree.lower i a h m in along_from f a (omega arith) (omega arith))
      where
        go : Is (is_block (t.node i))
            → ((a : ℕ) → mem a (operands (t.node i)) ≡ true → (v u : Valuation) → alike a v u → value_at t c a v ≡ value_at t d a u)
            → value_at t c i v ≡ value_at t d i u
        go (is_true b) rest = blocks i v u h b (rest (body_of (t.node i)) (body_named (t.node i) b)) r
        go (is_false b) rest =
            value_cut c i h v
            ∙ node_alike t c d i (t.node i) b v u (λ x e. names i x v u h e r) (λ a m. rest a m v u (down i a v u h b m r))
            ∙ sym (value_cut d i h u)

    pub along : (i : ℕ) → i < t.size → (v u : Valuation) → alike i v u → value_at t c i v ≡ value_at t d i u
    along i h = along_from (suc i) i (omega arith) h

-- What valuations that differ only below a quantifier keep.
through : (xs : List ℕ) (v u v' u' : Valuation) → Inside xs v' u' → DiffersAtMostAt xs v' v → DiffersAtMostAt xs u' u → (x : ℕ) → v x ≡ u x → v' x ≡ u' x
through xs v u v' u' same ov ou x e = go (look (mem x xs))
  where
    go : Is (mem x xs) → v' x ≡ u' x
    go (is_true m) = same x m
    go (is_false m) = ov x m ∙ e ∙ sym (ou x m)

-- Two valuations that agree on all that node i looks at, at cut c: on the numbers of the input, on the new names of the blocks
-- above i, and on the definition variables of the inner blocks below i or at it that are read so.
record Same (t : Table) (c i : ℕ) (v u : Valuation) : Type 0 where
  numbers : (x : ℕ) → x ≤ highest_number t → v x ≡ u x
  bounds : (b x : ℕ) → b < t.size → is_block (t.node b) ≡ true → above t b i ≡ true → mem x (new_names t b) ≡ true → v x ≡ u x
  definitions : (b : ℕ) → b < t.size → inner t b ≡ true → level t b ≤ c → mem i (path t b) ≡ true → v (definition_variable t b) ≡ u (definition_variable t b)

module _ (t : Table) (tree : Tree t) where
  -- a path through a node goes on through its parent
  path_above_step : (a b : ℕ) → suc b < t.size → (mem a (path t (parent t b)) ≡ true → above t (parent t a) (parent t b) ≡ true)
      → mem a (b ∷ path t (parent t b)) ≡ true → (eqb (parent t a) (parent t b) || above t (parent t a) (parent t b)) ≡ true
  unfolding mem
  path_above_step a b h r m =
      or_cases (eqb a b) (mem a (path t (parent t b))) m
      (λ e. rw (eq-eqb (parent t a) (parent t b) (ap (parent t) (eqb-true a b e))))
      (λ n. or_right (eqb (parent t a) (parent t b)) _ (r n))

  pub path_above : (a : ℕ) → suc a < t.size → (b : ℕ) → b < t.size → mem a (path t b) ≡ true → above t (parent t a) b ≡ true
  path_above a l =
      climb t tree (λ b. mem a (path t b) ≡ true → above t (parent t a) b ≡ true)
      (λ b h m. absurd (let e = eqb-true a b (sym (mem_one a b) ∙ (rw (path_root t tree b h) at m)) in omega arith))
      (λ b h r m. above_step t tree (parent t a) b h ∙ path_above_step a b h r (rw (path_step t tree b h) at m))

  path_up_lem : (a i : ℕ) → i < t.size → mem a (operands (t.node i)) ≡ true → (b : ℕ) → b < t.size → mem a (path t b) ≡ true → mem i (path t b) ≡ true
  unfolding above
  path_up_lem a i h k b l m =
      let s = tree.lower i a h k in
      subst (λ j. mem j (path t b) ≡ true) (parent_is t tree i a h k) (and_left _ _ (path_above a (omega arith) b l m))

  -- the blocks above an operand of i are i and those above i
  operand_above : {P : Type 0} (b a i : ℕ) → i < t.size → mem a (operands (t.node i)) ≡ true → above t b a ≡ true → (b ≡ i → P) → (above t b i ≡ true → P) → P
  operand_above b a i h k p f g =
      let s = tree.lower i a h k in
      let e = parent_is t tree i a h k in
      above_cases t tree b a (omega arith) p (λ q. f (q ∙ e)) (λ q. g (subst (λ j. above t b j ≡ true) e q))

  -- from a node to an operand
  same_down : (c i a : ℕ) (v u v' u' : Valuation) → i < t.size → mem a (operands (t.node i)) ≡ true
      → ((x : ℕ) → v x ≡ u x → v' x ≡ u' x) → (is_block (t.node i) ≡ true → Inside (new_names t i) v' u')
      → Same t c i v u → Same t c a v' u'
  same_down c i a v u v' u' h k keeps own s =
      record {
        numbers = λ x l. keeps x (s.numbers x l);
        bounds = λ b x l e p m.
            operand_above b a i h k p
            (λ q. own (subst (λ j. is_block (t.node j) ≡ true) q e) x (subst (λ j. mem x (new_names t j) ≡ true) q m))
            (λ q. keeps x (s.bounds b x l e q m));
        definitions = λ b l n e p. keeps (definition_variable t b) (s.definitions b l n e (path_up_lem a i h k b l p));
      }

  -- the new name at a variable node is a number of the input, or a new name of a block above
  pub name_cases : (P : ℕ → Type 0) (i x : ℕ) → i < t.size → t.node i ≡ variable x
      → ((y : ℕ) → y ≤ highest_number t → P y)
      → ((b y : ℕ) → b < t.size → is_block (t.node b) ≡ true → above t b i ≡ true → mem y (new_names t b) ≡ true → P y)
      → P (new_name t i x)
  name_cases P i x h e f g = go (look (ltb (binder t i x) t.size))
    where
      go : Is (ltb (binder t i x) t.size) → P (new_name t i x)
      go (is_true l) =
          let k = ltb-true (binder t i x) t.size l in
          g (binder t i x) (new_name t i x) k (binder_block t tree i x k) (binder_above t tree i x k) (new_name-bound t i x k)
      go (is_false l) =
          let k = ltb-false (binder t i x) t.size l in
          let o = binder_le t i x in
          let q = new_name-free t i x (omega arith) in f (new_name t i x) (omega (arith, variable_le t i x h e))

  same_block : (c i : ℕ) (v u : Valuation) → i < t.size → is_block (t.node i) ≡ true
      → ((v' u' : Valuation) → Same t c (body_of (t.node i)) v' u' → value_at t c (body_of (t.node i)) v' ≡ value_at t c (body_of (t.node i)) u')
      → Same t c i v u → value_at t c i v ≡ value_at t c i u
  same_block c i v u h b rest s = go (look (inner t i && leb (level t i) c))
    where
      go : Is (inner t i && leb (level t i) c) → value_at t c i v ≡ value_at t c i u
      go (is_true e) =
          let n = and_left (inner t i) _ e in
          let l = leb-true (level t i) c (and_right (inner t i) _ e) in
          value_definition t tree c i h n l v ∙ s.definitions i h n l (path_self t tree i h) ∙ sym (value_definition t tree c i h n l u)
      go (is_false e) =
          value_real t tree c i h b e v
          ∙ quant_same (quantifier_at (t.node i)) (new_names t i) _ _ v u
          (λ v' u' in' ov ou. rest v' u'
          (same_down c i (body_of (t.node i)) v u v' u' h (body_named (t.node i) b) (through (new_names t i) v u v' u' in' ov ou) (λ k. in') s))
          ∙ sym (value_real t tree c i h b e u)

  same_value : (c i : ℕ) → i < t.size → (v u : Valuation) → Same t c i v u → value_at t c i v ≡ value_at t c i u
  same_value c =
      along t tree c c (Same t c)
      (λ i x v u h e s. name_cases (λ y. v y ≡ u y) i x h e s.numbers s.bounds)
      (λ i a v u h b m s. same_down c i a v u v u h m (λ x e. e) (λ k. clash k b) s)
      (λ i v u h b rest s. same_block c i v u h b rest s)

  -- A node's value at a cut depends on nothing else.
  pub seen : (c i : ℕ) → i < t.size → (v u : Valuation)
      → ((x : ℕ) → x ≤ highest_number t → v x ≡ u x)
      → ((b x : ℕ) → b < t.size → above t b i ≡ true → mem x (new_names t b) ≡ true → v x ≡ u x)
      → ((b : ℕ) → b < t.size → inner t b ≡ true → level t b ≤ c → mem i (path t b) ≡ true → v (definition_variable t b) ≡ u (definition_variable t b))
      → value_at t c i v ≡ value_at t c i u
  seen c i h v u numbers bounds definitions =
      same_value c i h v u (record { numbers = numbers; bounds = λ b x l e p m. bounds b x l p m; definitions = definitions })

-- Congruence of the parts of a matrix.
all_cong : (p r : ℕ → Bool) (xs : List ℕ) → ((x : ℕ) → mem x xs ≡ true → p x ≡ r x) → all p xs ≡ all r xs
unfolding all
all_cong p r [] same = refl
all_cong p r (x ∷ xs) same = ap₂ ◌&&◌ (same x (mem_head x xs)) (all_cong p r xs (λ y m. same y (mem_tail y x xs m)))

agree_cong : (v u : Valuation) (xs ys : List ℕ) → Inside xs v u → Inside ys v u → agree v xs ys ≡ agree u xs ys
unfolding agree
agree_cong v u [] ys p q = refl
agree_cong v u (x ∷ xs) [] p q = refl
agree_cong v u (x ∷ xs) (y ∷ ys) p q =
    ap₂ ◌&&◌ (ap₂ beq (p x (mem_head x xs)) (q y (mem_head y ys)))
    (agree_cong v u xs ys (λ z m. p z (mem_tail z x xs m)) (λ z m. q z (mem_tail z y ys m)))

-- a block's constraint, at two cuts and two valuations
pub holds_cong : (t : Table) (c d : ℕ) (v u : Valuation) (k : ℕ)
    → v (definition_variable t k) ≡ u (definition_variable t k)
    → value_at t c (body_of (t.node k)) v ≡ value_at t d (body_of (t.node k)) u
    → Inside (new_names t k) v u → Inside (copies t k) v u
    → block_holds t c v k ≡ block_holds t d u k
unfolding block_holds holds
holds_cong t c d v u k m b xs ys =
    ap₂ ◌&&◌ (ap₂ beq m b) (ap₂ (guarded (quantifier_at (t.node k))) m (agree_cong v u (new_names t k) (copies t k) xs ys))

-- the matrix after j levels, at two cuts and two valuations
pub matrix_cong : (t : Table) (c d : ℕ) (v u : Valuation) (j : ℕ)
    → value_at t c (kept t - 1) v ≡ value_at t d (kept t - 1) u
    → ((l k : ℕ) → l < j → mem k (blocks_at t (suc l)) ≡ true → block_holds t c v k ≡ block_holds t d u k)
    → matrix_at t c j v ≡ matrix_at t d j u
unfolding matrix_at
matrix_cong t c d v u zero first same = first
matrix_cong t c d v u (suc j) first same =
    ap₂ (joined (level_quantifier t j)) (matrix_cong t c d v u j first (λ l k h m. same l k (omega arith) m))
    (all_cong (block_holds t c v) (block_holds t d u) (blocks_at t (suc j)) (λ k m. same j k (omega arith) m))

module _ (t : Table) (tree : Tree t) where
  -- where the matrix begins: at the root, or at the body of a root that is a block
  pub kept_cases : {P : Type 0} → (suc (kept t - 1) ≡ t.size → is_block (t.node (kept t - 1)) ≡ false → P)
      → ((i : ℕ) → suc i ≡ t.size → mem (kept t - 1) (operands (t.node i)) ≡ true → P) → P
  unfolding kept
  kept_cases {P} f g = go (look (is_block (t.node (t.size - 1))))
    where
      root : suc (t.size - 1) ≡ t.size
      root = omega (arith, tree.nonempty)

      go : Is (is_block (t.node (t.size - 1))) → P
      go (is_true e) =
          g (t.size - 1) root (subst (λ k. mem k (operands (t.node (t.size - 1))) ≡ true) (root_body t tree (t.size - 1) root e) (body_named (t.node (t.size - 1)) e))
      go (is_false e) =
          let r = root in
          let k = pick_no {A = ℕ} (is_block (t.node (t.size - 1))) 1 0 e in
          let q : t.size - 1 ≡ t.size - pick (is_block (t.node (t.size - 1))) 1 0 - 1 = omega arith in
          f (omega arith) (subst (λ j. is_block (t.node j) ≡ false) q e)

  pub kept_lt : kept t - 1 < t.size
  kept_lt = kept_cases (λ e b. omega arith) (λ i h m. omega (arith, tree.lower i (kept t - 1) (omega arith) m))

  -- above it stands at most the root
  kept_above : (b : ℕ) → above t b (kept t - 1) ≡ true → level t b ≡ 0
  kept_above b p =
      kept_cases
      (λ e n. clash p (above_root t tree b (kept t - 1) e))
      (λ i h m. operand_above t tree b (kept t - 1) i (omega arith) m p (λ q. level_root t tree b (omega arith)) (λ q. clash q (above_root t tree b i h)))

  -- what stands above a block's body is no deeper than the block
  body_above : (b i : ℕ) → i < t.size → inner t i ≡ true → above t b (body_of (t.node i)) ≡ true → level t b ≤ level t i
  body_above b i h n p =
      operand_above t tree b (body_of (t.node i)) i h (body_named (t.node i) (inner_block t i n)) p
      (λ q. omega (arith, ap (level t) q)) (λ q. above_level_le t tree b i h q)

  -- an inner block whose path goes through a block's body is deeper than the block
  body_path : (b i : ℕ) → i < t.size → inner t i ≡ true → b < t.size → inner t b ≡ true → mem (body_of (t.node i)) (path t b) ≡ true → level t i < level t b
  body_path b i h n k m p =
      let a = body_named (t.node i) (inner_block t i n) in
      let s = tree.lower i (body_of (t.node i)) h a in
      above_level t tree i b k m
      (subst (λ j. above t j b ≡ true) (parent_is t tree i (body_of (t.node i)) h a) (path_above t tree (body_of (t.node i)) (omega arith) b k p))

  -- no new name, and no copy, of a block of a lower level is one of level l
  level_names_apart : (l b k x : ℕ) → level t b < l → mem x (new_names t b) ≡ true → mem k (blocks_at t l) ≡ true → mem x (new_names t k) ≡ true → ⊥
  level_names_apart l b k x h m n p = omega (arith, ap (level t) (new_names_apart t b k x m p), blocks_at-level t tree l k n)

  level_copies_apart : (l b k x : ℕ) → level t b < l → inner t b ≡ true → mem x (copies t b) ≡ true → mem k (blocks_at t l) ≡ true → mem x (copies t k) ≡ true → ⊥
  level_copies_apart l b k x h i m n p =
      omega (arith, ap (level t) (copies_apart t b k x i (blocks_at-inner t tree l k n) m p), blocks_at-level t tree l k n)

  -- The body of a block of level j + 1, its own level's blocks read as definition variables, looks at no copy, definition
  -- variable or other block's new name of that level.
  pub body_blind : (j i : ℕ) → mem i (blocks_at t (suc j)) ≡ true → (v u : Valuation)
      → ((z : ℕ)
      → ((k : ℕ) → mem k (blocks_at t (suc j)) ≡ true → mem z (new_names t k) ≡ true → ⊥)
      → ((k : ℕ) → mem k (blocks_at t (suc j)) ≡ true → mem z (copies t k) ≡ true → ⊥)
      → ((k : ℕ) → mem k (blocks_at t (suc j)) ≡ true → z ≡ definition_variable t k → ⊥) → v z ≡ u z)
      → ((z : ℕ) → mem z (new_names t i) ≡ true → v z ≡ u z)
      → value_at t (suc j) (body_of (t.node i)) v ≡ value_at t (suc j) (body_of (t.node i)) u
  body_blind j i m v u same own =
      let h = blocks_at-lt t tree (suc j) i m in
      let n = blocks_at-inner t tree (suc j) i m in
      let e = blocks_at-level t tree (suc j) i m in
      let a = body_named (t.node i) (inner_block t i n) in
      let s = tree.lower i (body_of (t.node i)) h a in
      seen t tree (suc j) (body_of (t.node i)) (omega arith) v u
      (λ x l. same x
      (λ k n p. omega (arith, new_names-above t k x p))
      (λ k n p. omega (arith, copies_above t k x p))
      (λ k n p. omega (arith, definition_above t k)))
      (λ b x l p q. operand_above t tree b (body_of (t.node i)) i h a p
      (λ e. own x (subst (λ k. mem x (new_names t k) ≡ true) e q))
      (λ p. same x
      (λ k. level_names_apart (suc j) b k x (omega (arith, above_level t tree b i h n p)) q)
      (λ k n r. omega (arith, new_names-le t b x l q, copies_above t k x r))
      (λ k n r. omega (arith, new_names-le t b x l q, definition_above t k))))
      (λ b l k o p. absurd (omega (arith, body_path b i h n l k p)))

  -- The matrix after j levels, level j + 1 read as definition variables, looks at no new name and no copy of that level.
  module _ (j : ℕ) (v u : Valuation)
      (same : (z : ℕ)
      → ((k : ℕ) → mem k (blocks_at t (suc j)) ≡ true → mem z (new_names t k) ≡ true → ⊥)
      → ((k : ℕ) → mem k (blocks_at t (suc j)) ≡ true → mem z (copies t k) ≡ true → ⊥) → v z ≡ u z) where
    blind_bound : (b x : ℕ) → b < t.size → level t b < suc j → mem x (new_names t b) ≡ true → v x ≡ u x
    blind_bound b x h l m =
        same x (λ k. level_names_apart (suc j) b k x l m) (λ k n p. omega (arith, new_names-le t b x h m, copies_above t k x p))

    blind_copy : (b x : ℕ) → level t b < suc j → inner t b ≡ true → mem x (copies t b) ≡ true → v x ≡ u x
    blind_copy b x l i m =
        same x
        (λ k n p. omega (arith, new_names-le t k x (blocks_at-lt t tree (suc j) k n) p, copies_above t b x m))
        (λ k. level_copies_apart (suc j) b k x l i m)

    blind_definition : (b : ℕ) → v (definition_variable t b) ≡ u (definition_variable t b)
    blind_definition b =
        same (definition_variable t b)
        (λ k n p. omega (arith, new_names-le t k _ (blocks_at-lt t tree (suc j) k n) p, definition_above t b))
        (λ k n p. omega (arith, copies_le t k _ (blocks_at-lt t tree (suc j) k n) (blocks_at-inner t tree (suc j) k n) p, definition_above t b))

    blind_value : (i : ℕ) → i < t.size → ((b : ℕ) → above t b i ≡ true → level t b ≤ j) → value_at t (suc j) i v ≡ value_at t (suc j) i u
    blind_value i h shallow =
        seen t tree (suc j) i h v u
        (λ x l. same x (λ k n p. omega (arith, new_names-above t k x p)) (λ k n p. omega (arith, copies_above t k x p)))
        (λ b x l p m. blind_bound b x l (omega (arith, shallow b p)) m)
        (λ b l n e p. blind_definition b)

    blind_block : (l k : ℕ) → l < j → mem k (blocks_at t (suc l)) ≡ true → block_holds t (suc j) v k ≡ block_holds t (suc j) u k
    blind_block l k h m =
        let s = blocks_at-lt t tree (suc l) k m in
        let n = blocks_at-inner t tree (suc l) k m in
        let e = blocks_at-level t tree (suc l) k m in
        let a = tree.lower k (body_of (t.node k)) s (body_named (t.node k) (inner_block t k n)) in
        holds_cong t (suc j) (suc j) v u k (blind_definition k)
        (blind_value (body_of (t.node k)) (omega arith) (λ b p. omega (arith, body_above b k s n p)))
        (λ x p. blind_bound k x s (omega arith) p)
        (λ x p. blind_copy k x (omega arith) n p)

    pub matrix_blind : matrix_at t (suc j) j v ≡ matrix_at t (suc j) j u
    matrix_blind =
        matrix_cong t (suc j) (suc j) v u j (blind_value (kept t - 1) kept_lt (λ b p. omega (arith, kept_above b p))) blind_block
