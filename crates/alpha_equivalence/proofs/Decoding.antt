-- What the nodes and the prefix of a form tell of its table: equal forms have the same first nodes, and the same blocks at each level.
-- Assumes nothing.
use mathlib.Core.Path.{◌≡◌, refl, sym, ◌∙◌, ap, subst}
use mathlib.Core.Bool.{true, false}
use mathlib.Core.List.{List, [], ◌∷◌, ◌++◌, append_assoc}
use Prim.Native.Nat.{ℕ, zero, suc, ◌+◌, ◌-◌, ◌*◌, ◌≤◌, ◌<◌}
use native.Mathlib.Omega.{arith}
use lib.Dec.{eqb, ltb}
use lib.ListN.{length, get_or, take, drop, length-append}
use lib.Seq.{take_at, drop_at, get_or_at}
use borrow.Author.Tests.{eqb-true, ltb-true, ltb-false}
use Rattle.lists.specs.Choice.{pick, pick_yes, pick_no, Is, is_true, is_false, look, clash, absent, or_cases}
use Rattle.lists.specs.Members.{mem}
use Rattle.lists.specs.Parts.{up_to}
use Rattle.lists.proofs.Members.{mem_head, mem_tail, mem-get_or}
use Rattle.lists.proofs.Parts.{up_to_split, get_or_each}
use Rattle.formula.specs.Node.{Quantifier, exists, for_all, Node, constant, variable, negation, operator, block, Table, is_block}
use Rattle.formula.specs.Form.{Block}
use Rattle.formula.specs.Tree.{Tree, NoEmptyBlocks, count}
use Rattle.prenex_form.specs.Scope.{binder, inner, level}
use Rattle.prenex_form.specs.Names.{highest_number, bound_count, new_names, new_name, definition_variable}
use Rattle.prenex_form.specs.Levels.{blocks_at, levels, quantifier_at, level_quantifier}
use Rattle.prenex_form.specs.Matrix.{iff, kept, renamed, first_nodes, body_of, equation, guard, constraint, further, constraints, level_join, level_nodes, nodes_to, prenex_nodes}
use Rattle.prenex_form.specs.Prefix.{block_count, prefix_block, prefix_blocks}
use Rattle.prenex_form.proofs.Paths.{binder_le, kept_le, inner_lt, inner_level, inner_block, level_le_levels, mem-blocks_at, blocks_at-lt, blocks_at-inner, kept_inner, kept_positive}
use Rattle.prenex_form.proofs.NameLaws.{variable_le, length-new_names, new_names-le, new_name-free, new_name-bound, definition_above, definition_apart}
use Rattle.prenex_form.proofs.PrefixNames.{prefix_levels}
use Rattle.prenex_form.proofs.Written.{equation_first, equation_next, length_equations, closing, length_constraint, length_constraint_ge, length-first_nodes, get_or-first_nodes, kept_ge}
use Rattle.prenex_form.proofs.Truth.{none_deeper, no_level}

-- Two lists in two parts each, the first parts of one length.
module _ {A : Type 0} (p p' q q' : List A) (e : p ++ q ≡ p' ++ q') (l : length p ≡ length p') where
  append_left : p ≡ p'
  append_left = sym (take_at p q (length p) refl) ∙ ap (take (length p)) e ∙ take_at p' q' (length p) (sym l)

  append_right : q ≡ q'
  append_right = sym (drop_at p q (length p) refl) ∙ ap (drop (length p)) e ∙ drop_at p' q' (length p) (sym l)

-- the number at a variable node that stands first
head_variable : (x y : ℕ) (ns ms : List Node) → variable x ∷ ns ≡ variable y ∷ ms → x ≡ y
head_variable x y ns ms e = let h : variable x ≡ variable y = ap (λ (zs : List Node). get_or zs 0 (constant false)) e in cc

-- the matrix that a level is joined to
joined_to_lem : (q : Quantifier) (m c m' c' : ℕ) → level_join q m c ≡ level_join q m' c' → m ≡ m'
unfolding level_join
joined_to_lem for_all m c m' c' e = cc
joined_to_lem exists m c m' c' e = cc

guard_tells : (q r : Quantifier) → guard q ≡ guard r → q ≡ r
unfolding guard
guard_tells exists exists e = refl
guard_tells exists for_all e = absurd (omega arith)
guard_tells for_all exists e = absurd (omega arith)
guard_tells for_all for_all e = refl

-- what the table has where the form has a variable node
data Stood (t : Table) (i x : ℕ) (nd : Node) : Type 0 where
  block_stood : is_block nd ≡ true → definition_variable t i ≡ x → Stood t i x nd
  variable_stood : (y : ℕ) → nd ≡ variable y → new_name t i y ≡ x → Stood t i x nd

stood : (t : Table) (i x : ℕ) (nd : Node) → renamed t i nd ≡ variable x → Stood t i x nd
unfolding renamed is_block
stood t i x (constant b) e = let z : ◌≡◌ {A = ℕ} 0 1 = cc in absurd (omega arith)
stood t i x (variable y) e = variable_stood y refl cc
stood t i x (negation a) e = let z : ◌≡◌ {A = ℕ} 0 1 = cc in absurd (omega arith)
stood t i x (operator f a b) e = let z : ◌≡◌ {A = ℕ} 0 1 = cc in absurd (omega arith)
stood t i x (block q xs a) e = block_stood refl cc

renamed_block : (t : Table) (i : ℕ) (nd : Node) → is_block nd ≡ true → renamed t i nd ≡ variable (definition_variable t i)
unfolding renamed is_block
renamed_block t i (constant b) h = clash h refl
renamed_block t i (variable x) h = clash h refl
renamed_block t i (negation a) h = clash h refl
renamed_block t i (operator f a b) h = clash h refl
renamed_block t i (block q xs a) h = refl

-- names of variable nodes are no definition variables
new_name-le : (t : Table) → Tree t → (i y : ℕ) → i < t.size → t.node i ≡ variable y → new_name t i y ≤ highest_number t + bound_count t
new_name-le t tree i y h e = go (look (ltb (binder t i y) t.size))
  where
    go : Is (ltb (binder t i y) t.size) → new_name t i y ≤ highest_number t + bound_count t
    go (is_true b) = let l = ltb-true _ _ b in new_names-le t (binder t i y) _ l (new_name-bound t i y l)
    go (is_false b) =
        omega (arith, new_name-free t i y (omega (arith, ltb-false (binder t i y) t.size b, binder_le t i y)), variable_le t i y h e)

nodes_some : (t : Table) → Tree t → (j : ℕ) → 0 < length (nodes_to t j)
unfolding nodes_to
nodes_some t tree zero = omega (arith, length-first_nodes t, kept_positive t tree)
nodes_some t tree (suc j) = omega (arith, length-append (nodes_to t j) (level_nodes t j (length (nodes_to t j))), nodes_some t tree j)

-- the last node of a level
last_joined : (t : Table) (j : ℕ)
    → (c : ℕ) × (get_or (nodes_to t (suc j)) (length (nodes_to t (suc j)) - 1) (constant false) ≡ level_join (level_quantifier t j) (length (nodes_to t j) - 1) c)
unfolding nodes_to level_nodes
last_joined t j =
    let ns = nodes_to t j in
    let cs = constraints t (blocks_at t (suc j)) (length ns) in
    let c = length ns + length cs - 1 in
    let x = level_join (level_quantifier t j) (length ns - 1) c in
    (c, rw (sym (append_assoc ns cs (x ∷ []))) (get_or_at (ns ++ cs) x [] (constant false) _ (omega (arith, length-append (ns ++ cs) (x ∷ [])))))

length_level : (t : Table) (j s : ℕ) → length (level_nodes t j s) ≡ length (constraints t (blocks_at t (suc j)) s) + 1
unfolding level_nodes
length_level t j s = length-append (constraints t (blocks_at t (suc j)) s) _

module _ (t u : Table) (tree : Tree t) (tree' : Tree u) (blocks : prefix_blocks t ≡ prefix_blocks u) where
  counted : pick (eqb (block_count t) 0) 0 (suc (levels t)) ≡ pick (eqb (block_count u) 0) 0 (suc (levels u))
  counted = sym (prefix_levels t) ∙ ap length blocks ∙ prefix_levels u

  -- both have blocks, or neither has
  some_blocks : eqb (block_count t) 0 ≡ false → eqb (block_count u) 0 ≡ false
  some_blocks b = absent _ (λ c. let z = sym (pick_no _ _ _ b) ∙ counted ∙ pick_yes _ _ _ c in absurd (omega arith))

  levels_same : levels t ≡ levels u
  levels_same = go (look (eqb (block_count t) 0)) (look (eqb (block_count u) 0))
    where
      go : Is (eqb (block_count t) 0) → Is (eqb (block_count u) 0) → levels t ≡ levels u
      go (is_true b) (is_true c) =
          no_level t tree (eqb-true _ _ b) (look (ltb 0 (levels t))) ∙ sym (no_level u tree' (eqb-true _ _ c) (look (ltb 0 (levels u))))
      go (is_true b) (is_false c) = let z = sym (pick_yes _ _ _ b) ∙ counted ∙ pick_no _ _ _ c in absurd (omega arith)
      go (is_false b) (is_true c) = clash c (some_blocks b)
      go (is_false b) (is_false c) = let z = sym (pick_no _ _ _ b) ∙ counted ∙ pick_no _ _ _ c in omega arith

  pub block_same : eqb (block_count t) 0 ≡ false → (j : ℕ) → j ≤ levels t → prefix_block t j ≡ prefix_block u j
  unfolding prefix_blocks
  block_same b j h =
      let d = prefix_block t 0 in
      sym (get_or_each (prefix_block t) (suc (levels t)) j d (omega arith))
      ∙ ap (λ (bs : List Block). get_or bs j d) (sym (pick_no _ _ _ b) ∙ blocks ∙ pick_no _ _ _ (some_blocks b))
      ∙ get_or_each (prefix_block u) (suc (levels u)) j d (omega (arith, levels_same))

  pub quantifier_same : eqb (block_count t) 0 ≡ false → (j : ℕ) → j ≤ levels t → level_quantifier t j ≡ level_quantifier u j
  unfolding prefix_block
  quantifier_same b j h = ap (λ (c : Block). c.quantifier) (block_same b j h)

-- Equal forms of two tables.
module _ (t u : Table) (tree : Tree t) (tree' : Tree u) (nodes : prenex_nodes t ≡ prenex_nodes u) (blocks : prefix_blocks t ≡ prefix_blocks u) where
  has_blocks : 0 < levels t → eqb (block_count t) 0 ≡ false
  has_blocks h = absent _ (λ b. let z = no_level t tree (eqb-true _ _ b) (look (ltb 0 (levels t))) in absurd (omega arith))

  -- A level's last node names the matrix that it joins, so where the level begins.
  part_same : (j : ℕ) → j < levels t → nodes_to t (suc j) ≡ nodes_to u (suc j) → length (nodes_to t j) ≡ length (nodes_to u j)
  part_same j h e =
      let r = last_joined t j in
      let r' = last_joined u j in
      let q = quantifier_same t u tree tree' blocks (has_blocks (omega arith)) j (omega arith) in
      let last : level_join (level_quantifier u j) (length (nodes_to t j) - 1) r.0 ≡ level_join (level_quantifier u j) (length (nodes_to u j) - 1) r'.0 =
      ap (λ (p : Quantifier). level_join p (length (nodes_to t j) - 1) r.0) (sym q)
      ∙ sym r.1
      ∙ ap (λ (ns : List Node). get_or ns (length ns - 1) (constant false)) e
      ∙ r'.1 in
      omega (arith, joined_to_lem (level_quantifier u j) _ _ _ _ last, nodes_some t tree j, nodes_some u tree' j)

  -- counted down from the deepest level
  nodes_to_lem : (k j : ℕ) → j + k ≡ levels t → nodes_to t j ≡ nodes_to u j
  unfolding prenex_nodes nodes_to
  nodes_to_lem zero j e =
      let f : j ≡ levels t = omega arith in
      ap (nodes_to t) f ∙ nodes ∙ ap (nodes_to u) (sym (levels_same t u tree tree' blocks) ∙ sym f)
  nodes_to_lem (suc k) j e =
      let later = nodes_to_lem k (suc j) (omega arith) in
      append_left (nodes_to t j) (nodes_to u j) _ _ later (part_same j (omega arith) later)

  level_same : (j : ℕ) → j < levels t → level_nodes t j (length (nodes_to t j)) ≡ level_nodes u j (length (nodes_to t j))
  unfolding nodes_to
  level_same j h =
      let e = nodes_to_lem (levels t - j) j (omega arith) in
      let later = nodes_to_lem (levels t - suc j) (suc j) (omega arith) in
      append_right (nodes_to t j) (nodes_to u j) _ _ later (ap length e) ∙ ap (λ (ns : List Node). level_nodes u j (length ns)) (sym e)

  constraints_same : (j : ℕ) → j < levels t
      → constraints t (blocks_at t (suc j)) (length (nodes_to t j)) ≡ constraints u (blocks_at u (suc j)) (length (nodes_to t j))
  unfolding level_nodes
  constraints_same j h =
      let e = level_same j h in
      let s = length (nodes_to t j) in
      append_left (constraints t (blocks_at t (suc j)) s) (constraints u (blocks_at u (suc j)) s) _ _ e
      (omega (arith, ap length e, length_level t j s, length_level u j s))

  -- the first nodes
  first_same : first_nodes t ≡ first_nodes u
  unfolding nodes_to
  first_same = nodes_to_lem (levels t) 0 (omega arith)

  pub kept_same : kept t ≡ kept u
  kept_same = sym (length-first_nodes t) ∙ ap length first_same ∙ length-first_nodes u

  pub renamed_same : (i : ℕ) → i < kept t → renamed t i (t.node i) ≡ renamed u i (u.node i)
  renamed_same i h =
      sym (get_or-first_nodes t i h) ∙ ap (λ (ns : List Node). get_or ns i (constant false)) first_same ∙ get_or-first_nodes u i (omega (arith, kept_same))

  -- A definition variable stands at its block's index.
  mark_same : (i i' : ℕ) → i < t.size → inner t i ≡ true → inner u i' ≡ true
      → definition_variable t i ≡ definition_variable u i' → i ≡ i'
  mark_same i i' h n n' e =
      let low : i < kept t = omega (arith, inner_lt t tree i h n, kept_ge t) in
      let low' : i < kept u = omega (arith, kept_same) in
      go low' (stood u i (definition_variable u i') (u.node i) (sym (renamed_same i low) ∙ renamed_block t i (t.node i) (inner_block t i n) ∙ ap variable e))
    where
      go : i < kept u → Stood u i (definition_variable u i') (u.node i) → i ≡ i'
      go l (block_stood b d) = definition_apart u i i' (kept_inner u i l b) n' d
      go l (variable_stood y v d) =
          absurd (omega (arith, new_name-le u tree' i y (omega (arith, kept_le u)) v, definition_above u i'))

-- What a constraint tells of its block.
pub record SameBlock (t u : Table) (i : ℕ) : Type 0 where
  pub same_quantifier : quantifier_at (t.node i) ≡ quantifier_at (u.node i)
  pub same_count : count t i ≡ count u i
  pub same_body : body_of (t.node i) ≡ body_of (u.node i)

equation_starts : (t : Table) (i s k : ℕ) → (rest : List Node) × (equation t i s k ≡ variable (get_or (new_names t i) k 0) ∷ rest)
equation_starts t i s zero = (_, equation_first t i s)
equation_starts t i s (suc k) = (_, equation_next t i s k)

-- so many equations and one more, among as many as there are
equation_at : (t : Table) (i s c : ℕ) (rest : List Node) → c < count t i
    → get_or (up_to (equation t i s) (count t i) ++ rest) (length (up_to (equation t i s) c)) (constant false) ≡ variable (get_or (new_names t i) c 0)
unfolding up_to
equation_at t i s c rest h =
    let g = equation t i s in
    let x = variable (get_or (new_names t i) c 0) in
    let ns = up_to g c in
    let more = up_to_split g (suc c) (count t i - suc c) in
    let start = equation_starts t i s c in
    let n : count t i ≡ (count t i - suc c) + suc c = omega arith in
    let whole : up_to g (count t i) ++ rest ≡ ns ++ (x ∷ (start.0 ++ (more.0 ++ rest))) =
    ap (λ (zs : List Node). zs ++ rest) (ap (up_to g) n ∙ more.1 ∙ ap (λ (zs : List Node). (ns ++ zs) ++ more.0) start.1)
    ∙ append_assoc (ns ++ (x ∷ start.0)) more.0 rest
    ∙ append_assoc ns (x ∷ start.0) (more.0 ++ rest) in
    rw whole (get_or_at ns x _ (constant false) (length ns) refl)

-- The equations end where the definition variable stands: none of them begins with it.
no_fewer : (t u : Table) (i s : ℕ) (rest rest' : List Node) → i < u.size → 0 < count t i
    → up_to (equation t i s) (count t i) ++ (variable (definition_variable u i) ∷ rest) ≡ up_to (equation u i s) (count u i) ++ rest'
    → count t i < count u i → ⊥
no_fewer t u i s rest rest' h some e less =
    let c = count t i in
    let x = get_or (new_names u i) c 0 in
    let l : length (up_to (equation t i s) c) ≡ length (up_to (equation u i s) c) = omega (arith, length_equations t i s c some, length_equations u i s c some) in
    let here = get_or_at (up_to (equation t i s) c) (variable (definition_variable u i)) rest (constant false) _ l in
    let same : variable (definition_variable u i) ≡ variable x =
    sym here ∙ ap (λ (ns : List Node). get_or ns (length (up_to (equation u i s) c)) (constant false)) e ∙ equation_at u i s c rest' less in
    let d : definition_variable u i ≡ x = cc in
    let low = new_names-le u i x h (mem-get_or (new_names u i) c 0 (omega (arith, length-new_names u i))) in
    omega (arith, definition_above u i)

-- One constraint in front of others, of the same block in both tables.
record Decoded (t u : Table) (i : ℕ) (rest rest' : List Node) : Type 0 where
  block : SameBlock t u i
  others : rest ≡ rest'

module _ (t u : Table) (i s : ℕ) (h : i < t.size) (h' : i < u.size) (some : 0 < count t i) (some' : 0 < count u i)
    (mark : definition_variable t i ≡ definition_variable u i) (rest rest' : List Node) (e : constraint t i s ++ rest ≡ constraint u i s ++ rest') where
  after_two : up_to (equation t i (s + 2)) (count t i) ++ (closing t i (s + 1) (s + 4 * count t i) ++ rest)
      ≡ up_to (equation u i (s + 2)) (count u i) ++ (closing u i (s + 1) (s + 4 * count u i) ++ rest')
  unfolding constraint closing
  after_two =
      sym (append_assoc (up_to (equation t i (s + 2)) (count t i)) _ rest)
      ∙ ap (drop 2) e
      ∙ append_assoc (up_to (equation u i (s + 2)) (count u i)) _ rest'

  body_told : body_of (t.node i) ≡ body_of (u.node i)
  unfolding constraint
  body_told = let o : operator iff s (body_of (t.node i)) ≡ operator iff s (body_of (u.node i)) = ap (λ (ns : List Node). get_or ns 1 (constant false)) e in cc

  count_told : count t i ≡ count u i
  unfolding closing
  count_told =
      let a = no_fewer t u i (s + 2) _ _ h' some (rw mark at after_two) in
      let b = no_fewer u t i (s + 2) _ _ h some' (rw (sym mark) at (sym after_two)) in
      omega arith

  after_equations : closing t i (s + 1) (s + 4 * count t i) ++ rest ≡ closing u i (s + 1) (s + 4 * count u i) ++ rest'
  after_equations =
      append_right (up_to (equation t i (s + 2)) (count t i)) (up_to (equation u i (s + 2)) (count u i)) _ _ after_two
      (omega (arith, count_told, length_equations t i (s + 2) (count t i) some, length_equations u i (s + 2) (count u i) some'))

  quantifier_told : quantifier_at (t.node i) ≡ quantifier_at (u.node i)
  unfolding closing
  quantifier_told =
      let at : ℕ = s + 4 * count t i in
      let at' : ℕ = s + 4 * count u i in
      let o : operator (guard (quantifier_at (t.node i))) (at + 1) at ≡ operator (guard (quantifier_at (u.node i))) (at' + 1) at' =
      ap (λ (ns : List Node). get_or ns 1 (constant false)) after_equations in
      guard_tells _ _ (cc)

  decoded : Decoded t u i rest rest'
  unfolding closing
  decoded =
      record {
        block = record { same_quantifier = quantifier_told; same_count = count_told; same_body = body_told };
        others = ap (drop 3) after_equations;
      }

-- The constraints of a level's blocks.
pub record SameBlocks (t u : Table) (is is' : List ℕ) : Type 0 where
  pub indices : is ≡ is'
  pub each : (i : ℕ) → mem i is ≡ true → SameBlock t u i

-- these nodes are inner blocks
abbrev Inner : Table → List ℕ → Type 0
Inner t is = (i : ℕ) → mem i is ≡ true → (i < t.size) × (inner t i ≡ true)

cons_same : (t u : Table) (i : ℕ) (is is' : List ℕ) → SameBlock t u i → SameBlocks t u is is' → SameBlocks t u (i ∷ is) (i ∷ is')
unfolding mem
cons_same t u i is is' b bs =
    record {
      indices = ap (λ (js : List ℕ). i ∷ js) bs.indices;
      each = λ j m. or_cases (eqb j i) (mem j is) m (λ h. subst (SameBlock t u) (sym (eqb-true j i h)) b) (bs.each j);
    }

module _ (t u : Table) (tree : Tree t) (tree' : Tree u) (filled : NoEmptyBlocks t) (filled' : NoEmptyBlocks u)
    (nodes : prenex_nodes t ≡ prenex_nodes u) (blocks : prefix_blocks t ≡ prefix_blocks u) where
  inner_count : (i : ℕ) → i < t.size → inner t i ≡ true → 0 < count t i
  inner_count i h n = filled i h (inner_block t i n)

  inner_count' : (i : ℕ) → i < u.size → inner u i ≡ true → 0 < count u i
  inner_count' i h n = filled' i h (inner_block u i n)

  -- one constraint in front of others
  record First (i i' s : ℕ) (rest rest' : List Node) : Type 0 where
    index : i ≡ i'
    block : SameBlock t u i
    length_same : length (constraint t i s) ≡ length (constraint u i' s)
    others : rest ≡ rest'

  mark_told : (i i' s : ℕ) (rest rest' : List Node) → constraint t i s ++ rest ≡ constraint u i' s ++ rest'
      → definition_variable t i ≡ definition_variable u i'
  unfolding constraint
  mark_told i i' s rest rest' e = head_variable _ _ _ _ e

  first_one : (i s : ℕ) (rest rest' : List Node) → i < t.size → inner t i ≡ true → i < u.size → inner u i ≡ true
      → constraint t i s ++ rest ≡ constraint u i s ++ rest' → First i i s rest rest'
  first_one i s rest rest' h n h' n' e =
      let some = inner_count i h n in
      let some' = inner_count' i h' n' in
      let d = decoded t u i s h h' some some' (mark_told i i s rest rest' e) rest rest' e in
      record {
        index = refl;
        block = d.block;
        length_same = omega (arith, d.block.same_count, length_constraint t i s some, length_constraint u i s some');
        others = d.others;
      }

  first : (i i' s : ℕ) (rest rest' : List Node) → i < t.size → inner t i ≡ true → i' < u.size → inner u i' ≡ true
      → constraint t i s ++ rest ≡ constraint u i' s ++ rest' → First i i' s rest rest'
  first i i' s rest rest' h n h' n' e =
      let at = mark_same t u tree tree' nodes blocks i i' h n n' (mark_told i i' s rest rest' e) in
      subst (λ k. k < u.size → inner u k ≡ true → constraint t i s ++ rest ≡ constraint u k s ++ rest' → First i k s rest rest') at
      (first_one i s rest rest' h n) h' n' e

  -- the blocks of a level after its first, and all
  no_more : (i s : ℕ) (ns : List Node) → constraint t i s ++ ns ≡ [] → ⊥
  no_more i s ns e = omega (arith, ap length e, length-append (constraint t i s) ns, length_constraint_ge t i s)

  no_more' : (i s : ℕ) (ns : List Node) → [] ≡ constraint u i s ++ ns → ⊥
  no_more' i s ns e = omega (arith, ap length e, length-append (constraint u i s) ns, length_constraint_ge u i s)

  here : (i i' : ℕ) (is is' : List ℕ) → i ≡ i' → SameBlock t u i → SameBlocks t u is is' → SameBlocks t u (i ∷ is) (i' ∷ is')
  here i i' is is' at b bs = subst (λ k. SameBlocks t u (i ∷ is) (k ∷ is')) at (cons_same t u i is is' b bs)

  further_told : (is is' : List ℕ) (s : ℕ) → Inner t is → Inner u is' → further t is s ≡ further u is' s → SameBlocks t u is is'
  unfolding further mem
  further_told [] [] s n n' e = record { indices = refl; each = λ i m. clash m refl }
  further_told [] (i' ∷ is') s n n' e = absurd (no_more' i' s _ e)
  further_told (i ∷ is) [] s n n' e = absurd (no_more i s _ e)
  further_told (i ∷ is) (i' ∷ is') s n n' e =
      let a = n i (mem_head i is) in
      let b = n' i' (mem_head i' is') in
      let f = first i i' s _ _ a.0 a.1 b.0 b.1 e in
      let next : s + length (constraint u i' s) + 1 ≡ s + length (constraint t i s) + 1 = omega (arith, f.length_same) in
      here i i' is is' f.index f.block
      (further_told is is' _ (λ j m. n j (mem_tail j i is m)) (λ j m. n' j (mem_tail j i' is' m))
      (ap (drop 1) f.others ∙ ap (further u is') next))

  constraints_told : (is is' : List ℕ) (s : ℕ) → Inner t is → Inner u is' → constraints t is s ≡ constraints u is' s → SameBlocks t u is is'
  unfolding constraints mem
  constraints_told [] [] s n n' e = record { indices = refl; each = λ i m. clash m refl }
  constraints_told [] (i' ∷ is') s n n' e = absurd (no_more' i' s _ e)
  constraints_told (i ∷ is) [] s n n' e = absurd (no_more i s _ e)
  constraints_told (i ∷ is) (i' ∷ is') s n n' e =
      let a = n i (mem_head i is) in
      let b = n' i' (mem_head i' is') in
      let f = first i i' s _ _ a.0 a.1 b.0 b.1 e in
      let next : s + length (constraint u i' s) ≡ s + length (constraint t i s) = omega (arith, f.length_same) in
      here i i' is is' f.index f.block
      (further_told is is' _ (λ j m. n j (mem_tail j i is m)) (λ j m. n' j (mem_tail j i' is' m))
      (f.others ∙ ap (further u is') next))

  level_told : (j : ℕ) → j < levels t → SameBlocks t u (blocks_at t (suc j)) (blocks_at u (suc j))
  level_told j h =
      constraints_told (blocks_at t (suc j)) (blocks_at u (suc j)) (length (nodes_to t j))
      (λ i m. (blocks_at-lt t tree (suc j) i m, blocks_at-inner t tree (suc j) i m))
      (λ i m. (blocks_at-lt u tree' (suc j) i m, blocks_at-inner u tree' (suc j) i m))
      (constraints_same t u tree tree' nodes blocks j h)

  -- Every inner block is at one of the levels.
  pub record AlsoInner (i : ℕ) : Type 0 where
    pub within : i < u.size
    pub also : inner u i ≡ true
    pub block : SameBlock t u i

  pub inner_told : (i : ℕ) → i < t.size → inner t i ≡ true → AlsoInner i
  inner_told i h n =
      let low = inner_level t tree i h n in
      let high = level_le_levels t tree i h in
      let j = level t i - 1 in
      let told = level_told j (omega arith) in
      let m : mem i (blocks_at t (suc j)) ≡ true = mem-blocks_at t tree (suc j) i h n (omega arith) in
      let m' : mem i (blocks_at u (suc j)) ≡ true = rw told.indices at m in
      record { within = blocks_at-lt u tree' (suc j) i m'; also = blocks_at-inner u tree' (suc j) i m'; block = told.each i m }

  -- and so are those of level 1, if there are any
  pub first_level : SameBlocks t u (blocks_at t 1) (blocks_at u 1)
  unfolding mem
  first_level = go (look (ltb 0 (levels t)))
    where
      go : Is (ltb 0 (levels t)) → SameBlocks t u (blocks_at t 1) (blocks_at u 1)
      go (is_true h) = level_told 0 (ltb-true _ _ h)
      go (is_false h) =
          let z : levels t ≡ 0 = omega (arith, ltb-false 0 (levels t) h) in
          let a : blocks_at t 1 ≡ [] = rw z at (none_deeper t tree) in
          let b : blocks_at u 1 ≡ [] = rw (sym (levels_same t u tree tree' blocks) ∙ z) at (none_deeper u tree') in
          record { indices = a ∙ sym b; each = λ i m. clash (rw a at m) refl }
