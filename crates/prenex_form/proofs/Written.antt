-- The value of the written nodes: the matrix after all levels.
-- Assumes nothing.
use mathlib.Core.Path.{◌≡◌, refl, sym, ◌∙◌, ap, ap₂}
use mathlib.Core.Bool.{Bool, true, false, ◌&&◌, beq, and-true}
use mathlib.Core.List.{List, [], ◌∷◌, ◌++◌}
use Prim.Native.Nat.{ℕ, zero, suc, ◌+◌, ◌-◌, ◌*◌, ◌≤◌, ◌<◌}
use native.Mathlib.Omega.{arith}
use native.Mathlib.Nat.{le_of_suc-le-suc, not-suc-le-zero}
use lib.Dec.{leb, eqb-suc-zero}
use lib.ListN.{length, get_or, take, length-append}
use lib.Seq.{take_all}
use borrow.Author.Tests.{le-leb}
use Rattle.lists.specs.Choice.{pick, pick_yes, pick_no, Is, is_true, is_false, look, clash, and_both}
use Rattle.lists.specs.Members.{mem, all}
use Rattle.lists.specs.Parts.{up_to}
use Rattle.lists.proofs.Members.{mem_head, mem_tail}
use Rattle.lists.proofs.Parts.{length_each, get_or_each}
use Rattle.formula.specs.Node.{Quantifier, exists, for_all, Node, constant, variable, negation, operator, block, Table, operands, is_block}
use Rattle.formula.specs.Valuation.{Valuation}
use Rattle.formula.specs.Truth.{operator_value, node_value, value, truth}
use Rattle.formula.specs.Tree.{Tree, NoEmptyBlocks, count}
use Rattle.formula.proofs.Operators.{and_is_8, or_is_14, biconditional_is_9, implies_is_11}
use Rattle.prenex_form.specs.Scope.{inner, level}
use Rattle.prenex_form.specs.Names.{new_name, new_names, copies, definition_variable}
use Rattle.prenex_form.specs.Levels.{blocks_at, levels, quantifier_at, level_quantifier}
use Rattle.prenex_form.specs.Matrix.{and, iff, implies, kept, renamed, first_nodes, body_of, equation, guard, constraint, further, constraints, level_join, level_nodes, nodes_to, prenex_nodes}
use Rattle.prenex_form.proofs.Cut.{cut_node, cut, value_at, agree, guarded, holds, block_holds, joined, matrix_at}
use Rattle.prenex_form.proofs.Paths.{kept_le, kept_inner, inner_lt, level_le_levels, blocks_at-lt, blocks_at-inner, level_nonempty, kept_positive, inner_block, body_named}
use Rattle.prenex_form.proofs.NameLaws.{length-new_names, length_copies}
use Rattle.prenex_form.proofs.NodeLists.{list_table, Val, val_constant, val_variable, val_negation, val_operator, val_is, val_truth, Placed, placed_all, placed_left, placed_right, placed_at}

-- the nodes of an equation, with sums for differences
pub equation_first : (t : Table) (i s : ℕ)
    → equation t i s 0 ≡ variable (get_or (new_names t i) 0 0) ∷ variable (get_or (copies t i) 0 0) ∷ operator iff s (s + 1) ∷ []
unfolding equation pick
equation_first t i s = refl

pub equation_next : (t : Table) (i s k : ℕ)
    → equation t i s (suc k) ≡ variable (get_or (new_names t i) (suc k) 0) ∷ variable (get_or (copies t i) (suc k) 0)
    ∷ operator iff (s + 4 * k + 3) (s + 4 * k + 4) ∷ operator and (s + 4 * k + 2) (s + 4 * k + 5) ∷ []
unfolding equation
equation_next t i s k =
    let a : s + 4 * suc k - 1 ≡ s + 4 * k + 3 = omega arith in
    let b : s + 4 * suc k ≡ s + 4 * k + 4 = omega arith in
    let c : s + 4 * suc k - 2 ≡ s + 4 * k + 2 = omega arith in
    let d : s + 4 * suc k + 1 ≡ s + 4 * k + 5 = omega arith in
    pick_no _ _ _ (eqb-suc-zero k) ∙ rw (a, c, d, b)

pub length_equations : (t : Table) (i s k : ℕ) → 0 < k → suc (length (up_to (equation t i s) k)) ≡ 4 * k
unfolding up_to
length_equations t i s zero h = absurd (not-suc-le-zero h)
length_equations t i s (suc zero) h = rw equation_first
length_equations t i s (suc (suc k)) h =
    let n = length_equations t i s (suc k) (omega arith) in
    rw (length-append (up_to (equation t i s) (suc k)) (equation t i s (suc k)), equation_next) (omega arith)

and_assoc : (a b c : Bool) → (a && (b && c)) ≡ ((a && b) && c)
and_assoc true b c = refl
and_assoc false b c = refl

-- agreement up to one place further
agree_next : (v : Valuation) (xs ys : List ℕ) (k : ℕ) → k < length xs → k < length ys
    → agree v (take (suc k) xs) (take (suc k) ys) ≡ (agree v (take k xs) (take k ys) && beq (v (get_or xs k 0)) (v (get_or ys k 0)))
unfolding agree
agree_next v [] ys k h l = absurd (not-suc-le-zero h)
agree_next v (x ∷ xs) [] k h l = absurd (not-suc-le-zero l)
agree_next v (x ∷ xs) (y ∷ ys) zero h l = and-true (beq (v x) (v y))
agree_next v (x ∷ xs) (y ∷ ys) (suc k) h l =
    ap (λ (b : Bool). beq (v x) (v y) && b) (agree_next v xs ys k (le_of_suc-le-suc h) (le_of_suc-le-suc l))
    ∙ and_assoc (beq (v x) (v y)) (agree v (take k xs) (take k ys)) (beq (v (get_or xs k 0)) (v (get_or ys k 0)))

agree_one : (v : Valuation) (xs ys : List ℕ) → 0 < length xs → 0 < length ys
    → agree v (take 1 xs) (take 1 ys) ≡ beq (v (get_or xs 0 0)) (v (get_or ys 0 0))
unfolding agree
agree_one v xs ys h l = agree_next v xs ys 0 h l

module _ (t : Table) (ms : List Node) (v : Valuation) where
  -- operator 9 or 8 of two values
  equal_values : (i a b : ℕ) (x y : Bool) → get_or ms i (constant false) ≡ operator iff a b → a < i → b < i
      → Val ms v a x → Val ms v b y → Val ms v i (beq x y)
  equal_values i a b x y e l r p q = val_is ms v i i _ _ refl (biconditional_is_9 x y) (val_operator ms v i iff a b x y e l r p q)

  both_values : (i a b : ℕ) (x y : Bool) → get_or ms i (constant false) ≡ operator and a b → a < i → b < i
      → Val ms v a x → Val ms v b y → Val ms v i (x && y)
  both_values i a b x y e l r p q = val_is ms v i i _ _ refl (and_is_8 x y) (val_operator ms v i and a b x y e l r p q)

  -- a variable, its copy and operator 9 of the two
  entry_values : (p x y a b : ℕ) (rest : List Node) → Placed ms p (variable x ∷ variable y ∷ operator iff a b ∷ rest) → a ≡ p → b ≡ p + 1
      → Val ms v (p + 2) (beq (v x) (v y))
  entry_values p x y a b rest q l r =
      let part = variable x ∷ variable y ∷ operator iff a b ∷ rest in
      let c = val_variable ms v a x (placed_at ms p part q 0 a (omega arith) (omega arith)) in
      let d = val_variable ms v b y (placed_at ms p part q 1 b (omega arith) (omega arith)) in
      equal_values (p + 2) a b (v x) (v y) (placed_at ms p part q 2 (p + 2) (omega arith) (omega arith)) (omega arith) (omega arith) c d

  equations_values : (i s k : ℕ) → 0 < k → k ≤ count t i → Placed ms s (up_to (equation t i s) k)
      → Val ms v (s + 4 * k - 2) (agree v (take k (new_names t i)) (take k (copies t i)))
  unfolding up_to
  equations_values i s zero some h p = absurd (not-suc-le-zero some)
  equations_values i s (suc zero) some h p =
      let e = agree_one v (new_names t i) (copies t i) (omega (arith, length-new_names t i)) (omega (arith, length_copies t i)) in
      val_is ms v (s + 2) (s + 4 * 1 - 2) _ _ (omega arith) (sym e)
      (entry_values s (get_or (new_names t i) 0 0) (get_or (copies t i) 0 0) s (s + 1) [] (rw equation_first at p) refl refl)
  equations_values i s (suc (suc k)) some h p =
      let xs = new_names t i in
      let ys = copies t i in
      let before = up_to (equation t i s) (suc k) in
      let n = length_equations t i s (suc k) (omega arith) in
      let last = operator and (s + 4 * k + 2) (s + 4 * k + 5) in
      let part = variable (get_or xs (suc k) 0) ∷ variable (get_or ys (suc k) 0) ∷ operator iff (s + 4 * k + 3) (s + 4 * k + 4) ∷ last ∷ [] in
      let q : Placed ms (s + length before) part = rw equation_next at (placed_right ms s before (equation t i s (suc k)) p) in
      let old = equations_values i s (suc k) (omega arith) (omega arith) (placed_left ms s before (equation t i s (suc k)) p) in
      let new =
      entry_values (s + length before) (get_or xs (suc k) 0) (get_or ys (suc k) 0) (s + 4 * k + 3) (s + 4 * k + 4) (last ∷ []) q (omega arith)
      (omega arith) in
      let e = agree_next v xs ys (suc k) (omega (arith, length-new_names t i)) (omega (arith, length_copies t i)) in
      val_is ms v (s + 4 * k + 6) (s + 4 * suc (suc k) - 2) _ _ (omega arith) (sym e)
      (both_values (s + 4 * k + 6) (s + 4 * k + 2) (s + 4 * k + 5) _ _
      (placed_at ms _ part q 3 (s + 4 * k + 6) (omega arith) (omega arith)) (omega arith) (omega arith)
      (val_is ms v (s + 4 * suc k - 2) (s + 4 * k + 2) _ _ (omega arith) refl old)
      (val_is ms v (s + length before + 2) (s + 4 * k + 5) _ _ (omega arith) refl new))

-- the definition variable again, operator 14 or 11 of it and the equations, which end at index e, and operator 8 of the two steps
unfoldable pub closing : Table → ℕ → ℕ → ℕ → List Node
closing t i s e = variable (definition_variable t i) ∷ operator (guard (quantifier_at (t.node i))) (e + 1) e ∷ operator and s (e + 2) ∷ []

-- the parts of a constraint
pub constraint_parts : (t : Table) (i s : ℕ)
    → constraint t i s ≡ (variable (definition_variable t i) ∷ operator iff s (body_of (t.node i)) ∷ [])
    ++ (up_to (equation t i (s + 2)) (count t i) ++ closing t i (s + 1) (s + 4 * count t i))
unfolding constraint closing
constraint_parts t i s = refl

pub length_constraint : (t : Table) (i s : ℕ) → 0 < count t i → suc (length (constraint t i s)) ≡ 4 * count t i + 5
unfolding closing
length_constraint t i s some =
    rw (constraint_parts t i s) (simp length-append (omega (arith, length_equations t i (s + 2) (count t i) some)))

pub length_constraint_ge : (t : Table) (i s : ℕ) → 2 ≤ length (constraint t i s)
unfolding constraint
length_constraint_ge t i s = omega arith

pub length_constraints_ge : (t : Table) (i : ℕ) (is : List ℕ) (s : ℕ) → 2 ≤ length (constraints t (i ∷ is) s)
unfolding constraints
length_constraints_ge t i is s =
    omega (arith, length-append (constraint t i s) (further t is (s + length (constraint t i s))), length_constraint_ge t i s)

value_guard : (q : Quantifier) (m e : Bool) → operator_value (guard q) m e ≡ guarded q m e
unfolding guard guarded
value_guard exists m e = or_is_14 m e
value_guard for_all m e = implies_is_11 m e

module _ (t : Table) (ms : List Node) (v : Valuation) (c : ℕ) where
  -- the definition variable, and operator 9 of it and the body
  definition_value : (i s : ℕ) → Placed ms s (variable (definition_variable t i) ∷ operator iff s (body_of (t.node i)) ∷ [])
      → body_of (t.node i) < s
      → Val ms v (body_of (t.node i)) (value_at t c (body_of (t.node i)) v)
      → Val ms v (s + 1) (beq (v (definition_variable t i)) (value_at t c (body_of (t.node i)) v))
  definition_value i s p h b =
      let part = variable (definition_variable t i) ∷ operator iff s (body_of (t.node i)) ∷ [] in
      let m = val_variable ms v s (definition_variable t i) (placed_at ms s part p 0 s (omega arith) (omega arith)) in
      equal_values t ms v (s + 1) s (body_of (t.node i)) _ _ (placed_at ms s part p 1 (s + 1) (omega arith) (omega arith)) (omega arith)
      (omega arith) m b

  closing_value : (i s e : ℕ) (a b : Bool) → Placed ms (e + 1) (closing t i s e) → s < e → Val ms v s a → Val ms v e b
      → Val ms v (e + 3) (a && guarded (quantifier_at (t.node i)) (v (definition_variable t i)) b)
  unfolding closing
  closing_value i s e a b p h x y =
      let q = quantifier_at (t.node i) in
      let d = definition_variable t i in
      let part = variable d ∷ operator (guard q) (e + 1) e ∷ operator and s (e + 2) ∷ [] in
      let m = val_variable ms v (e + 1) d (placed_at ms (e + 1) part p 0 (e + 1) (omega arith) (omega arith)) in
      let g =
      val_operator ms v (e + 2) (guard q) (e + 1) e _ _ (placed_at ms (e + 1) part p 1 (e + 2) (omega arith) (omega arith)) (omega arith)
      (omega arith) m y in
      let k = val_is ms v (e + 2) (e + 2) _ _ refl (value_guard q (v d) b) g in
      both_values t ms v (e + 3) s (e + 2) _ _ (placed_at ms (e + 1) part p 2 (e + 3) (omega arith) (omega arith)) (omega arith)
      (omega arith) x k

  equations_whole : (i s : ℕ) → 0 < count t i → Placed ms (s + 2) (up_to (equation t i (s + 2)) (count t i))
      → Val ms v (s + 4 * count t i) (agree v (new_names t i) (copies t i))
  equations_whole i s some p =
      let xs : take (count t i) (new_names t i) ≡ new_names t i = take_all (count t i) (new_names t i) (omega (arith, length-new_names t i)) in
      let ys : take (count t i) (copies t i) ≡ copies t i = take_all (count t i) (copies t i) (omega (arith, length_copies t i)) in
      val_is ms v (s + 2 + 4 * count t i - 2) (s + 4 * count t i) _ _ (omega arith) (ap₂ (agree v) xs ys)
      (equations_values t ms v i (s + 2) (count t i) some (omega arith) p)

  constraint_value : (i s : ℕ) → 0 < count t i → Placed ms s (constraint t i s) → body_of (t.node i) < s
      → Val ms v (body_of (t.node i)) (value_at t c (body_of (t.node i)) v)
      → Val ms v (s + length (constraint t i s) - 1) (block_holds t c v i)
  unfolding block_holds holds
  constraint_value i s some p h b =
      let n = count t i in
      let first = variable (definition_variable t i) ∷ operator iff s (body_of (t.node i)) ∷ [] in
      let es = up_to (equation t i (s + 2)) n in
      let end = closing t i (s + 1) (s + 4 * n) in
      let p : Placed ms s (first ++ (es ++ end)) = rw (constraint_parts t i s) at p in
      let q : Placed ms (s + 2) (es ++ end) = placed_right ms s first (es ++ end) p in
      let r : Placed ms (s + 2 + length es) end = placed_right ms (s + 2) es end q in
      let l : s + 2 + length es ≡ s + 4 * n + 1 = omega (arith, length_equations t i (s + 2) n some) in
      let a = definition_value i s (placed_left ms s first (es ++ end) p) h b in
      let d = equations_whole i s some (placed_left ms (s + 2) es end q) in
      val_is ms v (s + 4 * n + 3) (s + length (constraint t i s) - 1) _ _ (omega (arith, length_constraint t i s some)) refl
      (closing_value i (s + 1) (s + 4 * n) _ _ (rw l at r) (omega arith) a d)

-- these blocks bind variables, and their bodies are below k and have their values
abbrev Bodies : Table → List Node → Valuation → ℕ → ℕ → List ℕ → Type 0
Bodies t ms v c k is =
    (i : ℕ) → mem i is ≡ true
    → (0 < count t i) × (body_of (t.node i) < k) × Val ms v (body_of (t.node i)) (value_at t c (body_of (t.node i)) v)

module _ (t : Table) (ms : List Node) (v : Valuation) (c k : ℕ) where
  head_value : (i : ℕ) (is : List ℕ) (s : ℕ) → k ≤ s → Bodies t ms v c k (i ∷ is) → Placed ms s (constraint t i s)
      → Val ms v (s + length (constraint t i s) - 1) (block_holds t c v i)
  head_value i is s l ready p =
      let r = ready i (mem_head i is) in constraint_value t ms v c i s r.0 p (omega (arith, r.1)) r.2

  tail_bodies : (i : ℕ) (is : List ℕ) → Bodies t ms v c k (i ∷ is) → Bodies t ms v c k is
  tail_bodies i is ready j m = ready j (mem_tail j i is m)

  further_value : (is : List ℕ) (s : ℕ) (b : Bool) → 0 < s → k ≤ s → Bodies t ms v c k is → Placed ms s (further t is s)
      → Val ms v (s - 1) b
      → Val ms v (s + length (further t is s) - 1) (b && all (block_holds t c v) is)
  unfolding further all
  further_value [] s b h l ready p x = val_is ms v (s - 1) (s + 0 - 1) _ _ (omega arith) (sym (and-true b)) x
  further_value (i ∷ is) s b h l ready p x =
      let cs = constraint t i s in
      let n = length_constraint_ge t i s in
      let e = s + length cs in
      let o = operator and (s - 1) (e - 1) in
      let rest = further t is (e + 1) in
      let q : Placed ms e ((o ∷ []) ++ rest) = placed_right ms s cs (o ∷ rest) p in
      let r : Placed ms (e + 1) rest = placed_right ms e (o ∷ []) rest q in
      let y = head_value i is s l ready (placed_left ms s cs (o ∷ rest) p) in
      let z =
      both_values t ms v e (s - 1) (e - 1) b (block_holds t c v i) (placed_at ms e (o ∷ rest) q 0 e (omega arith) (omega arith))
      (omega arith) (omega arith) x y in
      let w =
      further_value is (e + 1) (b && block_holds t c v i) (omega arith) (omega arith) (tail_bodies i is ready) r
      (val_is ms v e (e + 1 - 1) _ _ (omega arith) refl z) in
      let u : e + 1 + length rest - 1 ≡ s + length (cs ++ (o ∷ rest)) - 1 = omega (arith, length-append cs (o ∷ rest)) in
      val_is ms v _ _ _ _ u (sym (and_assoc b (block_holds t c v i) (all (block_holds t c v) is))) w

  constraints_value : (i : ℕ) (is : List ℕ) (s : ℕ) → k ≤ s → Bodies t ms v c k (i ∷ is) → Placed ms s (constraints t (i ∷ is) s)
      → Val ms v (s + length (constraints t (i ∷ is) s) - 1) (all (block_holds t c v) (i ∷ is))
  unfolding constraints all
  constraints_value i is s l ready p =
      let cs = constraint t i s in
      let n = length_constraint_ge t i s in
      let rest = further t is (s + length cs) in
      let y = head_value i is s l ready (placed_left ms s cs rest p) in
      let w =
      further_value is (s + length cs) (block_holds t c v i) (omega arith) (omega arith) (tail_bodies i is ready)
      (placed_right ms s cs rest p) y in
      let u : s + length cs + length rest - 1 ≡ s + length (cs ++ rest) - 1 = omega (arith, length-append cs rest) in
      val_is ms v _ _ _ _ u refl w

  level_join-value : (q : Quantifier) (i m d : ℕ) (x y : Bool) → get_or ms i (constant false) ≡ level_join q m d → m < i → d < i
      → Val ms v m x → Val ms v d y → Val ms v i (joined q x y)
  unfolding level_join joined
  level_join-value exists i m d x y e l r p q = val_is ms v i i _ _ refl (implies_is_11 y x) (val_operator ms v i implies d m y x e r l q p)
  level_join-value for_all i m d x y e l r p q = both_values t ms v i m d x y e l r p q

  level_value_of : (is : List ℕ) (q : Quantifier) (s : ℕ) (x : Bool) → 0 < length is → 0 < s → k ≤ s → Bodies t ms v c k is
      → Placed ms s (constraints t is s ++ (level_join q (s - 1) (s + length (constraints t is s) - 1) ∷ [])) → Val ms v (s - 1) x
      → Val ms v (s + length (constraints t is s)) (joined q x (all (block_holds t c v) is))
  level_value_of [] q s x some h l ready p m = absurd (not-suc-le-zero some)
  level_value_of (i ∷ is) q s x some h l ready p m =
      let cs = constraints t (i ∷ is) s in
      let w = level_join q (s - 1) (s + length cs - 1) in
      let n = length_constraints_ge t i is s in
      let r : Placed ms (s + length cs) (w ∷ []) = placed_right ms s cs (w ∷ []) p in
      let y = constraints_value i is s l ready (placed_left ms s cs (w ∷ []) p) in
      level_join-value q (s + length cs) (s - 1) (s + length cs - 1) x _
      (placed_at ms (s + length cs) (w ∷ []) r 0 (s + length cs) (omega arith) (omega arith)) (omega arith) (omega arith) m y

  level_value : (j s : ℕ) (x : Bool) → 0 < length (blocks_at t (suc j)) → 0 < s → k ≤ s → Bodies t ms v c k (blocks_at t (suc j))
      → Placed ms s (level_nodes t j s) → Val ms v (s - 1) x
      → Val ms v (s + length (level_nodes t j s) - 1) (joined (level_quantifier t j) x (all (block_holds t c v) (blocks_at t (suc j))))
  unfolding level_nodes
  level_value j s x some h l ready p m =
      let cs = constraints t (blocks_at t (suc j)) s in
      let w = level_join (level_quantifier t j) (s - 1) (s + length cs - 1) in
      let u : s + length cs ≡ s + length (cs ++ (w ∷ [])) - 1 = omega (arith, length-append cs (w ∷ [])) in
      val_is ms v _ _ _ _ u refl (level_value_of (blocks_at t (suc j)) (level_quantifier t j) s x some h l ready p m)

  -- all the levels up to the j-th, above the first k nodes
  levels_value : (j : ℕ) → 0 < length (first_nodes t) → k ≤ length (first_nodes t) → ((l : ℕ) → l < j → 0 < length (blocks_at t (suc l)))
      → ((l : ℕ) → l < j → Bodies t ms v c k (blocks_at t (suc l))) → Placed ms 0 (nodes_to t j)
      → Val ms v (length (first_nodes t) - 1) (matrix_at t c 0 v)
      → (length (first_nodes t) ≤ length (nodes_to t j)) × Val ms v (length (nodes_to t j) - 1) (matrix_at t c j v)
  unfolding nodes_to matrix_at
  levels_value zero h l some ready p x = (omega arith, x)
  levels_value (suc j) h l some ready p x =
      let ns = nodes_to t j in
      let ls = level_nodes t j (length ns) in
      let r = levels_value j h l (λ i m. some i (omega arith)) (λ i m. ready i (omega arith)) (placed_left ms 0 ns ls p) x in
      let n = r.0 in
      let q : Placed ms (0 + length ns) ls = placed_right ms 0 ns ls p in
      let e : 0 + length ns ≡ length ns = omega arith in
      let y =
      level_value j (length ns) (matrix_at t c j v) (some j (omega arith)) (omega arith) (omega arith) (ready j (omega arith)) (rw e at q)
      r.1 in
      let u = length-append ns ls in
      (omega arith, val_is ms v _ _ _ _ (ap (λ (a : ℕ). a - 1) (sym u)) refl y)

-- the first nodes
pub length-first_nodes : (t : Table) → length (first_nodes t) ≡ kept t
unfolding first_nodes
length-first_nodes t = length_each (λ i. renamed t i (t.node i)) (kept t)

pub get_or-first_nodes : (t : Table) (i : ℕ) → i < kept t → get_or (first_nodes t) i (constant false) ≡ renamed t i (t.node i)
unfolding first_nodes
get_or-first_nodes t i h = get_or_each (λ i. renamed t i (t.node i)) (kept t) i (constant false) h

module _ (t : Table) (ms : List Node) (v : Valuation) (c : ℕ) where
  -- one node, given the values of those below it
  first_by : (f i : ℕ) (nd : Node) → get_or ms i (constant false) ≡ renamed t i nd → ((a : ℕ) → mem a (operands nd) ≡ true → a < i)
      → ((a : ℕ) → a < i → Val ms v a (value f (cut t c) a v)) → (is_block nd ≡ true → (inner t i && leb (level t i) c) ≡ true)
      → Val ms v i (node_value (value f (cut t c)) (cut_node t c i nd) v)
  unfolding renamed node_value cut_node operands is_block pick
  first_by f i (constant b) e low below replaced = val_constant ms v i b e
  first_by f i (variable x) e low below replaced = val_variable ms v i (new_name t i x) e
  first_by f i (negation a) e low below replaced =
      let l = low a (mem_head a []) in val_negation ms v i a _ e l (below a l)
  first_by f i (operator o a b) e low below replaced =
      let l = low a (mem_head a (b ∷ [])) in
      let r = low b (mem_tail b a (b ∷ []) (mem_head b [])) in
      val_operator ms v i o a b _ _ e l r (below a l) (below b r)
  first_by f i (block q xs a) e low below replaced = rw (replaced refl) (val_variable ms v i (definition_variable t i) e)

kept_ge_by : (t : Table) → Is (is_block (t.node (t.size - 1))) → t.size - 1 ≤ kept t
unfolding kept
kept_ge_by t (is_true b) = let y : ◌≡◌ {A = ℕ} (pick (is_block (t.node (t.size - 1))) 1 0) 1 = pick_yes _ _ _ b in omega arith
kept_ge_by t (is_false b) = let y : ◌≡◌ {A = ℕ} (pick (is_block (t.node (t.size - 1))) 1 0) 0 = pick_no _ _ _ b in omega arith

pub kept_ge : (t : Table) → t.size - 1 ≤ kept t
kept_ge t = kept_ge_by t (look (is_block (t.node (t.size - 1))))

mem_some : (i : ℕ) (is : List ℕ) → mem i is ≡ true → 0 < length is
unfolding mem
mem_some i [] h = clash h refl
mem_some i (j ∷ is) h = omega arith

module _ (t : Table) (tree : Tree t) where
  pub level_some : (l : ℕ) → l < levels t → 0 < length (blocks_at t (suc l))
  level_some l h =
      let r = level_nonempty t tree (suc l) (omega arith) h in mem_some r.0 (blocks_at t (suc l)) r.1

  -- the body of an inner block is among the first nodes
  pub body_lt : (i : ℕ) → i < t.size → inner t i ≡ true → body_of (t.node i) < i
  body_lt i h n = tree.lower i _ h (body_named (t.node i) (inner_block t i n))

  pub body_kept : (i : ℕ) → i < t.size → inner t i ≡ true → body_of (t.node i) < kept t
  body_kept i h n = omega (arith, body_lt i h n, inner_lt t tree i h n, kept_ge t)

-- these blocks bind variables
abbrev pub AllFilled : Table → List ℕ → Type 0
AllFilled t is = (i : ℕ) → mem i is ≡ true → 0 < count t i

pub level_filled : (t : Table) → Tree t → NoEmptyBlocks t → (l : ℕ) → AllFilled t (blocks_at t l)
level_filled t tree filled l i m = filled i (blocks_at-lt t tree l i m) (inner_block t i (blocks_at-inner t tree l i m))

module _ (t : Table) (tree : Tree t) (ms : List Node) (v : Valuation) (p : Placed ms 0 (first_nodes t)) where
  first_value : (f i : ℕ) → i < f → i < kept t → Val ms v i (value f (cut t (levels t)) i v)
  unfolding value cut
  first_value zero i h k = absurd (not-suc-le-zero h)
  first_value (suc f) i h k =
      let n : i < t.size = omega (arith, kept_le t) in
      let e = placed_at ms 0 (first_nodes t) p i i (omega (arith, length-first_nodes t)) (omega arith) in
      first_by t ms v (levels t) f i (t.node i) (e ∙ get_or-first_nodes t i k) (λ a m. tree.lower i a n m)
      (λ a l. first_value f a (omega arith) (omega arith))
      (λ b. and_both _ _ (kept_inner t i k b) (le-leb (level t i) (levels t) (level_le_levels t tree i n)))

  bodies_value : NoEmptyBlocks t → (l : ℕ) → Bodies t ms v (levels t) (kept t) (blocks_at t l)
  unfolding value_at
  bodies_value filled l i m =
      let h = blocks_at-lt t tree l i m in
      let b = body_kept t tree i h (blocks_at-inner t tree l i m) in
      (level_filled t tree filled l i m, b, first_value t.size (body_of (t.node i)) (omega (arith, kept_le t)) b)

  base_value : Val ms v (length (first_nodes t) - 1) (matrix_at t (levels t) 0 v)
  unfolding matrix_at value_at
  base_value =
      let k = kept_positive t tree in
      let n = kept_le t in
      let l = length-first_nodes t in
      val_is ms v (kept t - 1) (length (first_nodes t) - 1) _ _ (omega arith) refl
      (first_value t.size (kept t - 1) (omega arith) (omega arith))

placed_first : (t : Table) (ms : List Node) (j : ℕ) → Placed ms 0 (nodes_to t j) → Placed ms 0 (first_nodes t)
unfolding nodes_to
placed_first t ms zero p = p
placed_first t ms (suc j) p = placed_first t ms j (placed_left ms 0 (nodes_to t j) (level_nodes t j (length (nodes_to t j))) p)

-- the value of the matrix after j levels, in a list that begins with their nodes
nodes_value : (t : Table) → Tree t → NoEmptyBlocks t → (ms : List Node) (v : Valuation) (j : ℕ) → j ≤ levels t → Placed ms 0 (nodes_to t j)
    → (kept t ≤ length (nodes_to t j)) × Val ms v (length (nodes_to t j) - 1) (matrix_at t (levels t) j v)
nodes_value t tree filled ms v j h p =
    let first : Placed ms 0 (first_nodes t) = placed_first t ms j p in
    let l = length-first_nodes t in
    let k = kept_positive t tree in
    let r =
    levels_value t ms v (levels t) (kept t) j (omega arith) (omega arith) (λ i m. level_some t tree i (omega arith))
    (λ i m. bodies_value t tree ms v first filled (suc i)) p (base_value t tree ms v first) in
    (omega (arith, r.0), r.1)

pub written_truth : (t : Table) → Tree t → NoEmptyBlocks t → (v : Valuation)
    → truth (list_table (prenex_nodes t)) v ≡ matrix_at t (levels t) (levels t) v
unfolding prenex_nodes
written_truth t tree filled v =
    let ms = nodes_to t (levels t) in
    let r = nodes_value t tree filled ms v (levels t) (omega arith) (placed_all ms) in
    val_truth ms v _ (omega (arith, r.0, kept_positive t tree)) r.1
