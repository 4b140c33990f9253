-- The written nodes are a tree: each but the last is named exactly once.
-- Assumes nothing.
use mathlib.Core.Path.{◌≡◌, refl, sym, ◌∙◌, ap}
use mathlib.Core.Bool.{true, false}
use mathlib.Core.List.{List, [], ◌∷◌, ◌++◌}
use Prim.Native.Nat.{ℕ, zero, suc, ◌+◌, ◌-◌, ◌*◌, ◌≤◌, ◌<◌}
use native.Mathlib.Omega.{arith}
use native.Mathlib.Nat.{not-suc-le-zero}
use lib.Dec.{eqb, ltb}
use lib.ListN.{length, get_or, length-append}
use borrow.Author.Tests.{ltb-true, ltb-false, lt-ltb, le-ltb, eqb-true, eqb-false, eq-eqb}
use Rattle.lists.specs.Choice.{pick, pick_yes, pick_no, Is, is_true, is_false, look, clash}
use Rattle.lists.specs.Members.{times}
use Rattle.lists.specs.Parts.{up_to, sum}
use Rattle.lists.proofs.Members.{mem_head, mem_tail}
use Rattle.lists.proofs.Parts.{sum_cong, sum_add, sum_zero}
use Rattle.formula.specs.Node.{Quantifier, exists, for_all, Node, constant, variable, negation, operator, block, Table, operands, is_block}
use Rattle.formula.specs.Tree.{Tree, NoEmptyBlocks, count, times_named}
use Rattle.formula.proofs.Users.{last_unnamed}
use Rattle.prenex_form.specs.Scope.{inner}
use Rattle.prenex_form.specs.Levels.{blocks_at, levels, level_quantifier}
use Rattle.prenex_form.specs.Matrix.{and, kept, renamed, first_nodes, body_of, equation, constraint, further, constraints, level_join, level_nodes, nodes_to, prenex_nodes}
use Rattle.prenex_form.proofs.Paths.{kept_root, kept_inner, root_body, kept_positive}
use Rattle.prenex_form.proofs.PrefixNames.{sum_first}
use Rattle.prenex_form.proofs.NodeLists.{list_table}
use Rattle.prenex_form.proofs.Written.{equation_first, equation_next, closing, constraint_parts, length_constraint, length_constraint_ge, length_constraints_ge, length-first_nodes, level_some, AllFilled, level_filled}
use Rattle.prenex_form.proofs.WrittenOrder.{prenex_lower, prenex_nonempty}
use Rattle.prenex_form.proofs.WrittenSizes.{sum_of, sum_blocks}

-- 1 if a is i, else 0; and 1 if i is below n, else 0
one : ℕ → ℕ → ℕ
one i a = pick (eqb i a) 1 0

below : ℕ → ℕ → ℕ
below i n = pick (ltb i n) 1 0

below_yes : (i n : ℕ) → i < n → below i n ≡ 1
unfolding below
below_yes i n h = pick_yes _ _ _ (lt-ltb i n h)

below_no : (i n : ℕ) → n ≤ i → below i n ≡ 0
unfolding below
below_no i n h = pick_no _ _ _ (le-ltb i n h)

-- the numbers below suc a are a and those below a
step_by : (i a c : ℕ) → suc a ≡ c → Is (eqb i a) → Is (ltb i a) → one i a + below i a ≡ below i c
unfolding one
step_by i a c e (is_true p) q =
    let h = eqb-true i a p in
    let x : one i a ≡ 1 = pick_yes _ _ _ p in omega (arith, below_no i a (omega arith), below_yes i c (omega arith))
step_by i a c e (is_false p) (is_true q) =
    let h = ltb-true i a q in
    let x : one i a ≡ 0 = pick_no _ _ _ p in omega (arith, below_yes i a h, below_yes i c (omega arith))
step_by i a c e (is_false p) (is_false q) =
    let h = ltb-false i a q in
    let n : i ≡ a → ⊥ = eqb-false i a p in
    let x : one i a ≡ 0 = pick_no _ _ _ p in omega (arith, below_no i a h, below_no i c (omega arith))

step : (i a c : ℕ) → suc a ≡ c → one i a + below i a ≡ below i c
step i a c e = step_by i a c e (look (eqb i a)) (look (ltb i a))

-- how often the nodes of a list name node i
named : ℕ → List Node → ℕ
named i [] = 0
named i (nd ∷ ns) = times i (operands nd) + named i ns

named_append : (i : ℕ) (ms ns : List Node) → named i (ms ++ ns) ≡ named i ms + named i ns
unfolding named
named_append i [] ns = omega arith
named_append i (nd ∷ ms) ns = omega (arith, named_append i ms ns)

named_variable : (i x : ℕ) (ns : List Node) → named i (variable x ∷ ns) ≡ named i ns
unfolding named operands times
named_variable i x ns = omega arith

named_operator : (i f a b : ℕ) (ns : List Node) → named i (operator f a b ∷ ns) ≡ one i a + one i b + named i ns
unfolding named operands times one
named_operator i f a b ns = omega arith

named_nil : (i : ℕ) → named i [] ≡ 0
unfolding named
named_nil i = refl

-- the equations: each node but the last, once
equations_named : (i : ℕ) (t : Table) (b s k : ℕ) → 0 < k → named i (up_to (equation t b s) k) + below i s ≡ below i (s + 4 * k - 2)
unfolding up_to
equations_named i t b s zero h = absurd (not-suc-le-zero h)
equations_named i t b s (suc zero) h =
    let e : s + 4 * 1 - 2 ≡ s + 2 = omega arith in
    rw (equation_first, named_variable, named_variable, named_operator, named_nil, e)
    (omega (arith, step i s (s + 1) (omega arith), step i (s + 1) (s + 2) (omega arith)))
equations_named i t b s (suc (suc k)) h =
    let p = s + 4 * k in
    let e : s + 4 * suc (suc k) - 2 ≡ s + 4 * k + 6 = omega arith in
    let x : s + 4 * suc k - 2 ≡ s + 4 * k + 2 = omega arith in
    let q : named i (up_to (equation t b s) (suc k)) + below i s ≡ below i (p + 2) =
    rw x at (equations_named i t b s (suc k) (omega arith)) in
    rw (named_append, equation_next, named_variable, named_variable, named_operator, named_operator, named_nil, e)
    (omega (
      arith,
      q,
      step i (p + 2) (p + 3) (omega arith),
      step i (p + 3) (p + 4) (omega arith),
      step i (p + 4) (p + 5) (omega arith),
      step i (p + 5) (p + 6) (omega arith),
    ))

-- 1 if i is the body of block b, else 0
body : ℕ → Table → ℕ → ℕ
body i t b = one i (body_of (t.node b))

-- a constraint: each node but the last, and the block's body
constraint_named : (i : ℕ) (t : Table) (b s : ℕ) → 0 < count t b
    → named i (constraint t b s) + below i s ≡ below i (s + length (constraint t b s) - 1) + body i t b
unfolding closing body
constraint_named i t b s some =
    let n = count t b in
    let x = s + 4 * n in
    let l : s + length (constraint t b s) - 1 ≡ x + 3 = omega (arith, length_constraint t b s some) in
    let y : s + 2 + 4 * n - 2 ≡ x = omega arith in
    let q : named i (up_to (equation t b (s + 2)) n) + below i (s + 2) ≡ below i x = rw y at (equations_named i t b (s + 2) n some) in
    rw (
      l,
      constraint_parts t b s,
      named_variable,
      named_operator,
      named_append,
      named_variable,
      named_operator,
      named_operator,
      named_nil,
    )
    (omega (
      arith,
      q,
      step i s (s + 1) (omega arith),
      step i (s + 1) (s + 2) (omega arith),
      step i x (x + 1) (omega arith),
      step i (x + 1) (x + 2) (omega arith),
      step i (x + 2) (x + 3) (omega arith),
    ))

module _ (i : ℕ) (t : Table) where
  further_named : (bs : List ℕ) (s : ℕ) → AllFilled t bs → 0 < s
      → named i (further t bs s) + below i (s - 1) ≡ below i (s + length (further t bs s) - 1) + sum_of (body i t) bs
  unfolding further sum_of
  further_named [] s filled h =
      let l : s + 0 - 1 ≡ s - 1 = omega arith in rw (l, named_nil) (omega arith)
  further_named (b ∷ bs) s filled h =
      let c = constraint t b s in
      let e = s + length c in
      let rest = further t bs (e + 1) in
      let o = operator and (s - 1) (e - 1) in
      let n = length_constraint_ge t b s in
      let l : s + length (c ++ (o ∷ rest)) - 1 ≡ e + 1 + length rest - 1 = omega (arith, length-append c (o ∷ rest)) in
      let z : e + 1 - 1 ≡ e = omega arith in
      let r : named i rest + below i e ≡ below i (e + 1 + length rest - 1) + sum_of (body i t) bs =
      rw z at (further_named bs (e + 1) (λ j m. filled j (mem_tail j b bs m)) (omega arith)) in
      let k : named i c + below i s ≡ below i (e - 1) + body i t b = constraint_named i t b s (filled b (mem_head b bs)) in
      rw (l, named_append i c (o ∷ rest), named_operator i and (s - 1) (e - 1) rest)
      (omega (arith, r, k, step i (s - 1) s (omega arith), step i (e - 1) e (omega arith)))

  constraints_named : (bs : List ℕ) (s : ℕ) → AllFilled t bs → 0 < length bs
      → named i (constraints t bs s) + below i s ≡ below i (s + length (constraints t bs s) - 1) + sum_of (body i t) bs
  unfolding constraints sum_of
  constraints_named [] s filled h = absurd (not-suc-le-zero h)
  constraints_named (b ∷ bs) s filled h =
      let c = constraint t b s in
      let e = s + length c in
      let rest = further t bs e in
      let n = length_constraint_ge t b s in
      let l : s + length (c ++ rest) - 1 ≡ e + length rest - 1 = omega (arith, length-append c rest) in
      let k : named i c + below i s ≡ below i (e - 1) + body i t b = constraint_named i t b s (filled b (mem_head b bs)) in
      rw (l, named_append i c rest) (omega (arith, further_named bs e (λ j m. filled j (mem_tail j b bs m)) (omega arith)))

  level_join-named : (q : Quantifier) (m c : ℕ) → named i (level_join q m c ∷ []) ≡ one i m + one i c
  unfolding level_join
  level_join-named exists m c = rw (named_operator, named_nil) (omega arith)
  level_join-named for_all m c = rw (named_operator, named_nil) (omega arith)

  constraints_some : (bs : List ℕ) (s : ℕ) → 0 < length bs → 0 < length (constraints t bs s)
  constraints_some [] s h = absurd (not-suc-le-zero h)
  constraints_some (b ∷ bs) s h = omega (arith, length_constraints_ge t b bs s)

  -- a level: each node from the one before it to its last but one, and the bodies of its blocks
  level_named : (j s : ℕ) → AllFilled t (blocks_at t (suc j)) → 0 < length (blocks_at t (suc j)) → 0 < s
      → named i (level_nodes t j s) + below i (s - 1) ≡ below i (s + length (level_nodes t j s) - 1) + sum_of (body i t) (blocks_at t (suc j))
  unfolding level_nodes
  level_named j s filled some h =
      let bs = blocks_at t (suc j) in
      let cs = constraints t bs s in
      let m = s + length cs - 1 in
      let w = level_join (level_quantifier t j) (s - 1) m in
      let n = constraints_some bs s some in
      let l : s + length (cs ++ (w ∷ [])) - 1 ≡ s + length cs = omega (arith, length-append cs (w ∷ [])) in
      rw (l, named_append i cs (w ∷ []), level_join-named (level_quantifier t j) (s - 1) m)
      (omega (arith, constraints_named bs s filled some, step i (s - 1) s (omega arith), step i m (s + length cs) (omega arith)))

  nodes_named : (j : ℕ) → ((l : ℕ) → AllFilled t (blocks_at t l)) → ((l : ℕ) → l < j → 0 < length (blocks_at t (suc l)))
      → 0 < length (first_nodes t)
      → (named i (nodes_to t j) + below i (length (first_nodes t) - 1)
      ≡ named i (first_nodes t) + sum (λ l. sum_of (body i t) (blocks_at t (suc l))) j + below i (length (nodes_to t j) - 1))
      × (0 < length (nodes_to t j))
  unfolding nodes_to sum
  nodes_named zero filled some h = (omega arith, h)
  nodes_named (suc j) filled some h =
      let ns = nodes_to t j in
      let ls = level_nodes t j (length ns) in
      let r = nodes_named j filled (λ l m. some l (omega arith)) h in
      let p = r.1 in
      let l : length (ns ++ ls) ≡ length ns + length ls = length-append ns ls in
      (rw (l, named_append i ns ls) (omega (arith, r.0, level_named j (length ns) (filled (suc j)) (some j (omega arith)) p)), omega arith)

-- the first nodes, and what the replaced blocks named
named_each : (i : ℕ) (f : ℕ → Node) (n : ℕ) → named i (up_to (λ j. f j ∷ []) n) ≡ sum (λ j. times i (operands (f j))) n
unfolding up_to sum named
named_each i f zero = refl
named_each i f (suc n) = named_append i (up_to (λ j. f j ∷ []) n) (f n ∷ []) ∙ omega (arith, named_each i f n)

times_renamed : (i : ℕ) (t : Table) (j : ℕ) (nd : Node)
    → times i (operands (renamed t j nd)) + pick (is_block nd) (one i (body_of nd)) 0 ≡ times i (operands nd)
unfolding operands renamed is_block body_of times one pick
times_renamed i t j (constant b) = refl
times_renamed i t j (variable x) = refl
times_renamed i t j (negation a) = omega arith
times_renamed i t j (operator f a b) = omega arith
times_renamed i t j (block q xs a) = omega arith

inner_kept_by : (t : Table) (j : ℕ) → j < kept t → Is (is_block (t.node j)) → inner t j ≡ is_block (t.node j)
unfolding inner
inner_kept_by t j h (is_true e) = kept_inner t j h e ∙ sym e
inner_kept_by t j h (is_false e) = rw e

inner_kept : (t : Table) (j : ℕ) → j < kept t → inner t j ≡ is_block (t.node j)
inner_kept t j h = inner_kept_by t j h (look (is_block (t.node j)))

-- how often the first nodes of the input name node i
kept_named : (i : ℕ) (t : Table)
    → named i (first_nodes t) + sum (λ j. pick (inner t j) (body i t j) 0) (kept t) ≡ sum (λ j. times i (operands (t.node j))) (kept t)
unfolding first_nodes body
kept_named i t =
    ap (λ (n : ℕ). n + sum (λ j. pick (inner t j) (body i t j) 0) (kept t)) (named_each i (λ j. renamed t j (t.node j)) (kept t))
    ∙ sym (sum_add (λ j. times i (operands (renamed t j (t.node j)))) (λ j. pick (inner t j) (body i t j) 0) (kept t))
    ∙ sum_cong _ _ (kept t) (λ j h. rw (inner_kept t j h) (times_renamed i t j (t.node j)))

kept_whole : (t : Table) (r : ℕ) → suc r ≡ t.size → is_block (t.node r) ≡ false → kept t ≡ t.size
unfolding kept
kept_whole t r h b =
    let e : t.size - 1 ≡ r = omega arith in
    let y : ◌≡◌ {A = ℕ} (pick (is_block (t.node (t.size - 1))) 1 0) 0 = rw e (pick_no _ _ _ b) in omega arith

module _ (i : ℕ) (t : Table) (tree : Tree t) where
  tree_named_by : Is (ltb (suc i) t.size) → times_named t i ≡ below i (t.size - 1)
  tree_named_by (is_true e) =
      let h = ltb-true (suc i) t.size e in omega (arith, tree.once i h, below_yes i (t.size - 1) (omega arith))
  tree_named_by (is_false e) =
      let h = ltb-false (suc i) t.size e in
      last_unnamed t tree.lower i h ∙ sym (below_no i (t.size - 1) (omega arith))

  -- in the input, each node but the last
  tree_named : sum (λ j. times i (operands (t.node j))) t.size ≡ below i (t.size - 1)
  unfolding times_named
  tree_named = tree_named_by (look (ltb (suc i) t.size))

  root_named : (nd : Node) → is_block nd ≡ true → times i (operands nd) ≡ one i (body_of nd)
  unfolding operands body_of is_block times one
  root_named (constant b) h = clash h refl
  root_named (variable x) h = clash h refl
  root_named (negation a) h = clash h refl
  root_named (operator f a b) h = clash h refl
  root_named (block q xs a) h = omega arith

  -- the first nodes and the bodies together: each of them but the last
  first-named_by : (r : ℕ) → suc r ≡ t.size → Is (is_block (t.node r))
      → named i (first_nodes t) + sum (λ j. pick (inner t j) (body i t j) 0) t.size ≡ below i (kept t - 1)
  unfolding sum inner
  first-named_by r e (is_true b) =
      let f : ℕ → ℕ = λ j. times i (operands (t.node j)) in
      let g : ℕ → ℕ = λ j. pick (inner t j) (body i t j) 0 in
      let k : kept t ≡ r = kept_root t r e b in
      let x : sum g t.size ≡ sum g r + g r = ap (sum g) (sym e) in
      let y : sum f t.size ≡ sum f r + f r = ap (sum f) (sym e) in
      let z : g r ≡ 0 = pick_no _ _ _ (rw (b, eq-eqb (suc r) t.size e)) in
      let w : f r ≡ one i (kept t - 1) = root_named (t.node r) b ∙ ap (one i) (root_body t tree r e b) in
      let h : below i (t.size - 1) ≡ below i r = ap (below i) (omega arith) in
      let m : named i (first_nodes t) + sum g r ≡ sum f r =
      ap (λ (n : ℕ). named i (first_nodes t) + sum g n) (sym k) ∙ kept_named i t ∙ ap (sum f) k in
      omega (arith, m, x, y, z, w, h, tree_named, step i (kept t - 1) r (omega (arith, kept_positive t tree)))
  first-named_by r e (is_false b) =
      let f : ℕ → ℕ = λ j. times i (operands (t.node j)) in
      let g : ℕ → ℕ = λ j. pick (inner t j) (body i t j) 0 in
      let k : kept t ≡ t.size = kept_whole t r e b in
      let m : named i (first_nodes t) + sum g t.size ≡ sum f t.size =
      ap (λ (n : ℕ). named i (first_nodes t) + sum g n) (sym k) ∙ kept_named i t ∙ ap (sum f) k in
      m ∙ tree_named ∙ ap (λ (n : ℕ). below i (n - 1)) (sym k)

  first_named : named i (first_nodes t) + sum (λ j. pick (inner t j) (body i t j) 0) t.size ≡ below i (kept t - 1)
  first_named =
      let n = tree.nonempty in first-named_by (t.size - 1) (omega arith) (look (is_block (t.node (t.size - 1))))

  prenex_named : NoEmptyBlocks t → named i (prenex_nodes t) ≡ below i (length (prenex_nodes t) - 1)
  unfolding prenex_nodes
  prenex_named filled =
      let l = length-first_nodes t in
      let p : 0 < length (first_nodes t) = omega (arith, kept_positive t tree) in
      let r = nodes_named i t (levels t) (level_filled t tree filled) (level_some t tree) p in
      let b : below i (length (first_nodes t) - 1) ≡ below i (kept t - 1) = ap (λ (n : ℕ). below i (n - 1)) l in
      omega (arith, r.0, sum_blocks t tree (body i t), first_named)

-- the same, counted in the table
table_named : (i : ℕ) (ns : List Node) → sum (λ j. times i (operands (get_or ns j (constant false)))) (length ns) ≡ named i ns
unfolding named
table_named i [] = sum_zero _ 0 (λ j h. absurd (not-suc-le-zero h))
table_named i (nd ∷ ns) =
    sum_first (λ j. times i (operands (get_or (nd ∷ ns) j (constant false)))) (length ns)
    ∙ ap (λ (n : ℕ). times i (operands nd) + n) (table_named i ns)

module _ (t : Table) (tree : Tree t) (filled : NoEmptyBlocks t) where
  pub prenex_once : (i : ℕ) → suc i < length (prenex_nodes t) → times_named (list_table (prenex_nodes t)) i ≡ 1
  unfolding times_named list_table
  prenex_once i h = table_named i (prenex_nodes t) ∙ prenex_named i t tree filled ∙ below_yes i _ (omega arith)

  pub prenex_tree : Tree (list_table (prenex_nodes t))
  unfolding list_table
  prenex_tree = record { nonempty = prenex_nonempty t tree; lower = prenex_lower t tree; once = prenex_once }
