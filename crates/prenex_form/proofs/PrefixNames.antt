-- The prefix of a prenex form: its words read back as its blocks, no variable stands twice in it, and how long it
-- is. Its names are at most `last_name`.
-- Assumes nothing.
use mathlib.Core.Path.{◌≡◌, refl, sym, ◌∙◌, ap, subst}
use mathlib.Core.Bool.{Bool, true, false, ◌&&◌}
use mathlib.Core.List.{List, [], ◌∷◌, ◌++◌, flat_map, append-nil}
use Prim.Native.Nat.{ℕ, zero, suc, ◌+◌, ◌*◌, ◌-◌, ◌≤◌, ◌<◌}
use native.Mathlib.Omega.{arith}
use lib.Dec.{eqb}
use lib.ListN.{length, length-append}
use borrow.Author.Tests.{eqb-true, eqb-false, ne_eqb}
use Rattle.lists.specs.Choice.{pick, pick_yes, pick_no, Is, is_true, is_false, look, clash, and_left}
use Rattle.lists.specs.Members.{mem, distinct}
use Rattle.lists.specs.Parts.{sum, up_to}
use Rattle.lists.proofs.Members.{mem_one, mem_neither, mem_flat_map_from, distinct_append}
use Rattle.lists.proofs.Parts.{flat_map_append, up_to_cong, length-up_to, length_each, mem_up_to_from, sum_cong, sum_mono, sum_add, term_le, sum_zero, pick_add}
use Rattle.lists.proofs.Sums.{ones_le}
use Rattle.formula.specs.Node.{Table, is_block, bound}
use Rattle.formula.specs.Tree.{Tree, count, bound_below}
use Rattle.formula.specs.Form.{Block, blocks_of}
use Rattle.formula.proofs.Prefix.{length-prefix_words, words_read}
use Rattle.prenex_form.specs.Scope.{inner, level, depth}
use Rattle.prenex_form.specs.Names.{highest_number, bound_count, new_names, inner_bound_below, inner_below, copies, definition_variable}
use Rattle.prenex_form.specs.Levels.{blocks_at, levels}
use Rattle.prenex_form.specs.Prefix.{block_count, leading, prefix_block, prefix_blocks, written_prefix, written_variables}
use Rattle.prenex_form.specs.Sizes.{prefix_count}
use Rattle.prenex_form.proofs.Paths.{level_root, inner_level, level_le_levels, blocks_at-lt, blocks_at-inner, blocks_at-level, depth_levels, inner_block, root_outer}
use Rattle.prenex_form.proofs.NameLaws.{none_bound, inner_bound_is_lem, inner_bound_le_lem, length-new_names, length_copies, new_names-above, new_names-le, copies_above, copies_le, definition_above, definition_le, new_names_apart, copies_apart, definition_apart, distinct-new_names, distinct_copies}

module _ (t : Table) where
  pub prefix_read : blocks_of (written_prefix t) (written_variables t) ≡ prefix_blocks t
  unfolding written_prefix written_variables
  prefix_read = words_read (prefix_blocks t)

-- lists and sums

module _ {A B : Type 0} where
  flat_map_up_to : (g : A → List B) (f : ℕ → List A) (n : ℕ) → flat_map g (up_to f n) ≡ up_to (λ i. flat_map g (f i)) n
  unfolding flat_map up_to
  flat_map_up_to g f zero = refl
  flat_map_up_to g f (suc n) =
      flat_map_append g (up_to f n) (f n) ∙ ap (λ (l : List B). l ++ flat_map g (f n)) (flat_map_up_to g f n)

flat_map_one {ℓ} : {A : Type ℓ} (g : A → List ℕ) (x : A) → flat_map g (x ∷ []) ≡ g x
unfolding flat_map
flat_map_one g x = append-nil (g x)

flat_map_pick : (g : ℕ → List ℕ) (b : Bool) (i : ℕ) → flat_map g (pick b (i ∷ []) []) ≡ pick b (g i) []
unfolding flat_map pick
flat_map_pick g true i = append-nil (g i)
flat_map_pick g false i = refl

length_pick : (b : Bool) (xs : List ℕ) → length (pick b xs []) ≡ pick b (length xs) 0
unfolding pick
length_pick true xs = refl
length_pick false xs = refl

-- a member of a part that is there
data Taken (x : ℕ) (b : Bool) (xs : List ℕ) : Type 0 where
  taken : b ≡ true → mem x xs ≡ true → Taken x b xs

mem_pick : (x : ℕ) (b : Bool) (xs : List ℕ) → mem x (pick b xs []) ≡ true → Taken x b xs
unfolding pick mem
mem_pick x true xs m = taken refl m
mem_pick x false xs m = clash m refl

distinct_pick : (b : Bool) (xs : List ℕ) → (b ≡ true → distinct xs ≡ true) → distinct (pick b xs []) ≡ true
unfolding pick distinct
distinct_pick true xs u = u refl
distinct_pick false xs u = refl

-- parts that are distinct and share nothing
pub distinct-up_to : (g : ℕ → List ℕ) (n : ℕ) → ((i : ℕ) → i < n → distinct (g i) ≡ true)
    → ((i j x : ℕ) → i < n → j < n → mem x (g i) ≡ true → mem x (g j) ≡ true → i ≡ j) → distinct (up_to g n) ≡ true
unfolding up_to distinct
distinct-up_to g zero each apart = refl
distinct-up_to g (suc n) each apart =
    distinct_append (up_to g n) (g n)
    (distinct-up_to g n (λ i l. each i (omega arith)) (λ i j x l k. apart i j x (omega arith) (omega arith)))
    (each n (omega arith))
    (λ x m k.
    let r = mem_up_to_from g n x m in
    omega (arith, r.1, apart r.0 n x (omega (arith, r.1)) (omega arith) r.2 k))

pub sum_first : (f : ℕ → ℕ) (n : ℕ) → sum f (suc n) ≡ f 0 + sum (λ i. f (suc i)) n
unfolding sum
sum_first f zero = omega arith
sum_first f (suc n) = omega (arith, sum_first f n)

-- of the levels 1 to m, only level l has the term c
level_none : (c l m : ℕ) → m < l → sum (λ j. pick (eqb l (suc j)) c 0) m ≡ 0
level_none c l m h = sum_zero (λ j. pick (eqb l (suc j)) c 0) m (λ j k. pick_no _ _ _ (ne_eqb l (suc j) (λ e. omega arith)))

level_one : (c l m : ℕ) → 0 < l → l ≤ m → sum (λ j. pick (eqb l (suc j)) c 0) m ≡ c
unfolding sum
level_one c l zero h k = absurd (omega arith)
level_one c l (suc m) h k = go (look (eqb l (suc m))) (level_one c l m h)
  where
    go : Is (eqb l (suc m)) → (l ≤ m → sum (λ j. pick (eqb l (suc j)) c 0) m ≡ c) → sum (λ j. pick (eqb l (suc j)) c 0) m + pick (eqb l (suc m)) c 0 ≡ c
    go (is_true e) next =
        let s : l ≡ suc m = eqb-true l (suc m) e in
        omega (arith, level_none c l m (omega arith), pick_yes {A = ℕ} (eqb l (suc m)) c 0 e)
    go (is_false e) next =
        let s : l ≡ suc m → ⊥ = eqb-false l (suc m) e in
        omega (arith, next (omega arith), pick_no {A = ℕ} (eqb l (suc m)) c 0 e)

level_pick : (b : Bool) (c l m : ℕ) → (b ≡ true → 0 < l) → (b ≡ true → l ≤ m) → sum (λ j. pick (b && eqb l (suc j)) c 0) m ≡ pick b c 0
unfolding pick
level_pick true c l m h k = level_one c l m (h refl) (k refl)
level_pick false c l m h k = sum_zero (λ j. 0) m (λ j p. refl)

-- what passes p is counted at exactly one of the levels 1 to m
levels_sum : (p : ℕ → Bool) (l c : ℕ → ℕ) (n m : ℕ)
    → ((i : ℕ) → i < n → p i ≡ true → 0 < l i) → ((i : ℕ) → i < n → p i ≡ true → l i ≤ m)
    → sum (λ j. sum (λ i. pick (p i && eqb (l i) (suc j)) (c i) 0) n) m ≡ sum (λ i. pick (p i) (c i) 0) n
unfolding sum
levels_sum p l c zero m h k = sum_zero (λ j. 0) m (λ j q. refl)
levels_sum p l c (suc n) m h k =
    omega (
      arith,
      sum_add (λ j. sum (λ i. pick (p i && eqb (l i) (suc j)) (c i) 0) n) (λ j. pick (p n && eqb (l n) (suc j)) (c n) 0) m,
      levels_sum p l c n m (λ i q. h i (omega arith)) (λ i q. k i (omega arith)),
      level_pick (p n) (c n) (l n) m (h n (omega arith)) (k n (omega arith)),
    )

distinct_one : (x : ℕ) → distinct (x ∷ []) ≡ true
unfolding distinct mem
distinct_one x = refl

one_is : (x y : ℕ) → mem x (y ∷ []) ≡ true → x ≡ y
one_is x y m = eqb-true x y (sym (mem_one x y) ∙ m)

-- which of two lists a member stands in
data Split (x : ℕ) (xs ys : List ℕ) : Type 0 where
  in_left : mem x xs ≡ true → Split x xs ys
  in_right : mem x ys ≡ true → Split x xs ys

mem_split : (x : ℕ) (xs ys : List ℕ) → mem x (xs ++ ys) ≡ true → Split x xs ys
mem_split x xs ys m = go (look (mem x xs)) (look (mem x ys))
  where
    go : Is (mem x xs) → Is (mem x ys) → Split x xs ys
    go (is_true p) q = in_left p
    go (is_false p) (is_true q) = in_right q
    go (is_false p) (is_false q) = clash m (mem_neither x xs ys p q)

-- the variables of prefix block j
abbrev part : Table → ℕ → List ℕ
part t j = (prefix_block t j).variables

-- what an inner block adds to its level's prefix block: its names, then its definition variable
unfoldable own : Table → ℕ → List ℕ
own t i = new_names t i ++ (definition_variable t i ∷ [])

-- x is a new name of block i, or its definition variable
data Lead (t : Table) (i x : ℕ) : Type 0 where
  name : mem x (new_names t i) ≡ true → Lead t i x
  definition : inner t i ≡ true → x ≡ definition_variable t i → Lead t i x

-- where a variable of prefix block j comes from
data Origin (t : Table) (j x : ℕ) : Type 0 where
  lead : (i : ℕ) → i < t.size → level t i ≡ j → Lead t i x → Origin t j x
  copy : (i : ℕ) → i < t.size → inner t i ≡ true → level t i ≡ suc j → mem x (copies t i) ≡ true → Origin t j x

-- the highest name there can be: the end of the three ranges of names
abbrev pub last_name : Table → ℕ
last_name t = highest_number t + bound_count t + inner_bound_below t t.size + inner_below t t.size

module _ (t : Table) where
  -- the blocks of a level, a part for each
  blocks_parts : (g : ℕ → List ℕ) (l : ℕ) → flat_map g (blocks_at t l) ≡ up_to (λ i. pick (inner t i && eqb (level t i) l) (g i) []) t.size
  unfolding blocks_at
  blocks_parts g l =
      flat_map_up_to g (λ i. pick (inner t i && eqb (level t i) l) (i ∷ []) []) t.size
      ∙ up_to_cong (λ i. flat_map g (pick (inner t i && eqb (level t i) l) (i ∷ []) [])) (λ i. pick (inner t i && eqb (level t i) l) (g i) []) t.size
      (λ i h. flat_map_pick g (inner t i && eqb (level t i) l) i)

  length_blocks : (g : ℕ → List ℕ) (l : ℕ) → length (flat_map g (blocks_at t l)) ≡ sum (λ i. pick (inner t i && eqb (level t i) l) (length (g i)) 0) t.size
  length_blocks g l =
      ap length (blocks_parts g l)
      ∙ length-up_to (λ i. pick (inner t i && eqb (level t i) l) (g i) []) t.size
      ∙ sum_cong (λ i. length (pick (inner t i && eqb (level t i) l) (g i) [])) (λ i. pick (inner t i && eqb (level t i) l) (length (g i)) 0) t.size
      (λ i h. length_pick (inner t i && eqb (level t i) l) (g i))

  distinct_blocks : (g : ℕ → List ℕ) (l : ℕ) → ((i : ℕ) → i < t.size → inner t i ≡ true → distinct (g i) ≡ true)
      → ((i j x : ℕ) → i < t.size → j < t.size → inner t i ≡ true → inner t j ≡ true → mem x (g i) ≡ true → mem x (g j) ≡ true → i ≡ j)
      → distinct (flat_map g (blocks_at t l)) ≡ true
  distinct_blocks g l each apart =
      rw (blocks_parts g l)
      (distinct-up_to (λ i. pick (inner t i && eqb (level t i) l) (g i) []) t.size
      (λ i h. distinct_pick (inner t i && eqb (level t i) l) (g i) (λ e. each i h (and_left (inner t i) (eqb (level t i) l) e)))
      (λ i j x h k m n. go i j x h k (mem_pick x (inner t i && eqb (level t i) l) (g i) m) (mem_pick x (inner t j && eqb (level t j) l) (g j) n)))
    where
      go : (i j x : ℕ) → i < t.size → j < t.size → Taken x (inner t i && eqb (level t i) l) (g i) → Taken x (inner t j && eqb (level t j) l) (g j) → i ≡ j
      go i j x h k (taken p m) (taken q n) = apart i j x h k (and_left (inner t i) (eqb (level t i) l) p) (and_left (inner t j) (eqb (level t j) l) q) m n

  -- the variables of the prefix, part by part
  variables_none : eqb (block_count t) 0 ≡ true → written_variables t ≡ []
  unfolding written_variables prefix_blocks flat_map
  variables_none e = ap (flat_map (λ (b : Block). b.variables)) (pick_yes _ _ _ e)

  variables_parts : eqb (block_count t) 0 ≡ false → written_variables t ≡ up_to (part t) (suc (levels t))
  unfolding written_variables prefix_blocks
  variables_parts e =
      ap (flat_map (λ (b : Block). b.variables)) (pick_no _ _ _ e)
      ∙ flat_map_up_to (λ (b : Block). b.variables) (λ j. prefix_block t j ∷ []) (suc (levels t))
      ∙ up_to_cong (λ j. flat_map (λ (b : Block). b.variables) (prefix_block t j ∷ [])) (part t) (suc (levels t)) (λ j h. flat_map_one (λ (b : Block). b.variables) (prefix_block t j))

  own_lead : (i x : ℕ) → inner t i ≡ true → mem x (own t i) ≡ true → Lead t i x
  unfolding own
  own_lead i x n m = go (mem_split x (new_names t i) (definition_variable t i ∷ []) m)
    where
      go : Split x (new_names t i) (definition_variable t i ∷ []) → Lead t i x
      go (in_left k) = name k
      go (in_right k) = definition n (one_is x (definition_variable t i) k)

  -- the names of a block and its definition variable are of no other block, and no copies
  lead_apart : (i j x : ℕ) → i < t.size → j < t.size → Lead t i x → Lead t j x → i ≡ j
  lead_apart i j x h k (name m) (name n) = new_names_apart t i j x m n
  lead_apart i j x h k (name m) (definition q n) = absurd (omega (arith, new_names-le t i x h m, definition_above t j))
  lead_apart i j x h k (definition p m) (name n) = absurd (omega (arith, new_names-le t j x k n, definition_above t i))
  lead_apart i j x h k (definition p m) (definition q n) = definition_apart t i j p q (sym m ∙ n)

  lead_copy : (i j x : ℕ) → i < t.size → Lead t i x → j < t.size → inner t j ≡ true → mem x (copies t j) ≡ true → ⊥
  lead_copy i j x h (name m) k q n = omega (arith, new_names-le t i x h m, copies_above t j x n)
  lead_copy i j x h (definition p m) k q n = omega (arith, copies_le t j x k q n, definition_above t i)

  -- a variable is of one prefix block
  origin_apart : (j k x : ℕ) → Origin t j x → Origin t k x → j ≡ k
  origin_apart j k x (lead i h e m) (lead i' h' e' m') = sym e ∙ ap (level t) (lead_apart i i' x h h' m m') ∙ e'
  origin_apart j k x (lead i h e m) (copy i' h' n' e' m') = absurd (lead_copy i i' x h m h' n' m')
  origin_apart j k x (copy i h n e m) (lead i' h' e' m') = absurd (lead_copy i' i x h' m' h n m)
  origin_apart j k x (copy i h n e m) (copy i' h' n' e' m') =
      let r : suc j ≡ suc k = sym e ∙ ap (level t) (copies_apart t i i' x n n' m m') ∙ e' in omega arith

  origin_above : (j x : ℕ) → Origin t j x → highest_number t < x
  origin_above j x (lead i h e (name m)) = new_names-above t i x m
  origin_above j x (lead i h e (definition n m)) = omega (arith, definition_above t i)
  origin_above j x (copy i h n e m) = omega (arith, copies_above t i x m)

  origin_le : (j x : ℕ) → Origin t j x → x ≤ last_name t
  origin_le j x (lead i h e (name m)) = omega (arith, new_names-le t i x h m)
  origin_le j x (lead i h e (definition n m)) = omega (arith, definition_le t i h n)
  origin_le j x (copy i h n e m) = omega (arith, copies_le t i x h n m)

  distinct_own : (i : ℕ) → i < t.size → distinct (own t i) ≡ true
  unfolding own
  distinct_own i h =
      distinct_append (new_names t i) (definition_variable t i ∷ []) (distinct-new_names t i) (distinct_one (definition_variable t i))
      (λ x m k. omega (arith, new_names-le t i x h m, definition_above t i, one_is x (definition_variable t i) k))

  distinct_leading : (j : ℕ) → distinct (leading t j) ≡ true
  unfolding leading own
  distinct_leading zero = distinct-new_names t (t.size - 1)
  distinct_leading (suc j) =
      distinct_blocks (own t) (suc j) (λ i h n. distinct_own i h) (λ i k x h l p q m n. lead_apart i k x h l (own_lead i x p m) (own_lead k x q n))

  distinct_level_copies : (l : ℕ) → distinct (flat_map (copies t) (blocks_at t l)) ≡ true
  distinct_level_copies l =
      distinct_blocks (copies t) l (λ i h n. distinct_copies t i) (λ i k x h l p q m n. copies_apart t i k x p q m n)

  module _ (tree : Tree t) where
    root_lt : t.size - 1 < t.size
    root_lt = let h = tree.nonempty in omega arith

    root_is : suc (t.size - 1) ≡ t.size
    root_is = let h = tree.nonempty in omega arith

    -- what leads prefix block j, and the copies in it
    leading_lead : (j x : ℕ) → mem x (leading t j) ≡ true → (i : ℕ) × (i < t.size) × (level t i ≡ j) × Lead t i x
    unfolding leading own
    leading_lead zero x m = (t.size - 1, root_lt, level_root t tree (t.size - 1) root_is, name m)
    leading_lead (suc j) x m =
        let r = mem_flat_map_from (own t) x (blocks_at t (suc j)) m in
        (r.0, blocks_at-lt t tree (suc j) r.0 r.1, blocks_at-level t tree (suc j) r.0 r.1, own_lead r.0 x (blocks_at-inner t tree (suc j) r.0 r.1) r.2)

    level_copy : (l x : ℕ) → mem x (flat_map (copies t) (blocks_at t l)) ≡ true
        → (i : ℕ) × (i < t.size) × (inner t i ≡ true) × (level t i ≡ l) × (mem x (copies t i) ≡ true)
    level_copy l x m =
        let r = mem_flat_map_from (copies t) x (blocks_at t l) m in
        (r.0, blocks_at-lt t tree l r.0 r.1, blocks_at-inner t tree l r.0 r.1, blocks_at-level t tree l r.0 r.1, r.2)

    part_origin : (j x : ℕ) → mem x (part t j) ≡ true → Origin t j x
    unfolding prefix_block
    part_origin j x m = go (mem_split x (leading t j) (flat_map (copies t) (blocks_at t (suc j))) m)
      where
        go : Split x (leading t j) (flat_map (copies t) (blocks_at t (suc j))) → Origin t j x
        go (in_left n) = let r = leading_lead j x n in lead r.0 r.1 r.2 r.3
        go (in_right n) = let r = level_copy (suc j) x n in copy r.0 r.1 r.2 r.3 r.4

    distinct_part : (j : ℕ) → distinct (part t j) ≡ true
    unfolding prefix_block
    distinct_part j =
        distinct_append (leading t j) (flat_map (copies t) (blocks_at t (suc j))) (distinct_leading j) (distinct_level_copies (suc j))
        (λ x m n.
        let r = leading_lead j x m in
        let s = level_copy (suc j) x n in lead_copy r.0 s.0 x r.1 r.3 s.1 s.2 s.4)

    -- no variable stands twice in the prefix
    pub prefix_distinct : distinct (written_variables t) ≡ true
    unfolding distinct
    prefix_distinct = go (look (eqb (block_count t) 0))
      where
        go : Is (eqb (block_count t) 0) → distinct (written_variables t) ≡ true
        go (is_true e) = rw (variables_none e)
        go (is_false e) =
            rw (variables_parts e)
            (distinct-up_to (part t) (suc (levels t)) (λ j h. distinct_part j)
            (λ j k x h l m n. origin_apart j k x (part_origin j x m) (part_origin k x n)))

    prefix_origin : (x : ℕ) → mem x (written_variables t) ≡ true → (j : ℕ) × Origin t j x
    unfolding mem
    prefix_origin x m = go (look (eqb (block_count t) 0))
      where
        go : Is (eqb (block_count t) 0) → (j : ℕ) × Origin t j x
        go (is_true e) = clash (subst (λ l. mem x l ≡ true) (variables_none e) m) refl
        go (is_false e) =
            let r = mem_up_to_from (part t) (suc (levels t)) x (subst (λ l. mem x l ≡ true) (variables_parts e) m) in
            (r.0, part_origin r.0 x r.2)

    -- its names are above the table's numbers, and at most the last one
    pub prefix_new : (x : ℕ) → mem x (written_variables t) ≡ true → highest_number t < x
    prefix_new x m = let r = prefix_origin x m in origin_above r.0 x r.1

    pub prefix_le : (x : ℕ) → mem x (written_variables t) ≡ true → x ≤ last_name t
    prefix_le x m = let r = prefix_origin x m in origin_le r.0 x r.1

pick_mono : (a b : Bool) (n : ℕ) → (a ≡ true → b ≡ true) → pick a n 0 ≤ pick b n 0
unfolding pick
pick_mono true true n h = omega arith
pick_mono true false n h = clash (h refl) refl
pick_mono false true n h = omega arith
pick_mono false false n h = omega arith

length_else : (b : Bool) (bs : List Block) → length (pick b [] bs) ≡ pick b 0 (length bs)
unfolding pick
length_else true bs = refl
length_else false bs = refl

-- one more than l is the depth d if the root is a block, one more than d if not
one_more : (b : Bool) (l d : ℕ) → d ≡ l + pick b 1 0 → suc l ≡ pick b d (d + 1)
unfolding pick
one_more true l d e = omega arith
one_more false l d e = omega arith

module _ (t : Table) where
  pub inner_below-le : inner_below t t.size ≤ block_count t
  unfolding inner_below block_count
  inner_below-le =
      sum_mono (λ i. pick (inner t i) 1 0) (λ i. pick (is_block (t.node i)) 1 0) t.size
      (λ i h. pick_mono (inner t i) (is_block (t.node i)) 1 (inner_block t i))

  pub block_count-le : block_count t ≤ t.size
  unfolding block_count
  block_count-le = ones_le (λ i. is_block (t.node i)) t.size

  -- how much lifting writes, from q, b and the depth
  pub entries_le : bound_count t + inner_bound_below t t.size + inner_below t t.size ≤ 2 * bound_count t + block_count t
  unfolding bound_count
  entries_le = omega (arith, inner_bound_le_lem t t.size, inner_below-le)

  pub blocks_le : prefix_count t ≤ depth t + 1
  unfolding prefix_count pick
  blocks_le = go (eqb (block_count t) 0) (is_block (t.node (t.size - 1)))
    where
      go : (a b : Bool) → pick a 0 (pick b (depth t) (depth t + 1)) ≤ depth t + 1
      go true b = omega arith
      go false true = omega arith
      go false false = omega arith

  -- the prefix has a block for each level and one more
  pub prefix_levels : length (prefix_blocks t) ≡ pick (eqb (block_count t) 0) 0 (suc (levels t))
  unfolding prefix_blocks
  prefix_levels =
      length_else (eqb (block_count t) 0) (up_to (λ j. prefix_block t j ∷ []) (suc (levels t)))
      ∙ ap (λ n. pick (eqb (block_count t) 0) 0 n) (length_each (prefix_block t) (suc (levels t)))

  pub prefix_length : length (written_prefix t) ≡ 3 * length (prefix_blocks t)
  unfolding written_prefix
  prefix_length = length-prefix_words 0 (prefix_blocks t)

  -- without blocks nothing is written
  no_block : eqb (block_count t) 0 ≡ true → (i : ℕ) → i < t.size → is_block (t.node i) ≡ false
  unfolding block_count
  no_block e i h = go (look (is_block (t.node i)))
    where
      go : Is (is_block (t.node i)) → is_block (t.node i) ≡ false
      go (is_true b) =
          absurd (omega (arith, eqb-true (block_count t) 0 e, term_le (λ j. pick (is_block (t.node j)) 1 0) t.size i h, pick_yes {A = ℕ} (is_block (t.node i)) 1 0 b))
      go (is_false b) = b

  no_entries : eqb (block_count t) 0 ≡ true → bound_count t + inner_bound_below t t.size + inner_below t t.size ≡ 0
  unfolding bound_count bound_below count
  no_entries e =
      omega (
        arith,
        sum_zero (λ i. length (bound (t.node i))) t.size (λ i h. none_bound (t.node i) (no_block e i h)),
        inner_bound_le_lem t t.size,
        inner_below-le,
        eqb-true (block_count t) 0 e,
      )

  -- the entries of the levels
  length_own : (i : ℕ) → length (own t i) ≡ count t i + 1
  unfolding own
  length_own i = omega (arith, length-append (new_names t i) (definition_variable t i ∷ []), length-new_names t i)

  module _ (tree : Tree t) where
    inner_levels : (g : ℕ → List ℕ) (m : ℕ) → levels t ≤ m
        → sum (λ j. length (flat_map g (blocks_at t (suc j)))) m ≡ sum (λ i. pick (inner t i) (length (g i)) 0) t.size
    inner_levels g m h =
        sum_cong (λ j. length (flat_map g (blocks_at t (suc j)))) (λ j. sum (λ i. pick (inner t i && eqb (level t i) (suc j)) (length (g i)) 0) t.size) m
        (λ j k. length_blocks t g (suc j))
        ∙ levels_sum (inner t) (level t) (λ i. length (g i)) t.size m (λ i k n. inner_level t tree i k n) (λ i k n. omega (arith, level_le_levels t tree i k))

    leading_entries : sum (λ j. length (leading t j)) (suc (levels t)) ≡ count t (t.size - 1) + (inner_bound_below t t.size + inner_below t t.size)
    unfolding leading own inner_bound_below inner_below
    leading_entries =
        omega (
          arith,
          sum_first (λ j. length (leading t j)) (levels t),
          length-new_names t (t.size - 1),
          inner_levels (own t) (levels t) (omega arith),
          sum_cong (λ i. pick (inner t i) (length (own t i)) 0) (λ i. pick (inner t i) (count t i) 0 + pick (inner t i) 1 0) t.size
              (λ i h. ap (λ n. pick (inner t i) n 0) (length_own i) ∙ pick_add (inner t i) (count t i) 1),
          sum_add (λ i. pick (inner t i) (count t i) 0) (λ i. pick (inner t i) 1 0) t.size,
        )

    copies_entries : sum (λ j. length (flat_map (copies t) (blocks_at t (suc j)))) (suc (levels t)) ≡ inner_bound_below t t.size
    unfolding inner_bound_below
    copies_entries =
        inner_levels (copies t) (suc (levels t)) (omega arith)
        ∙ sum_cong (λ i. pick (inner t i) (length (copies t i)) 0) (λ i. pick (inner t i) (count t i) 0) t.size
        (λ i h. ap (λ n. pick (inner t i) n 0) (length_copies t i))

    -- every bound variable is the root's or an inner block's
    bound_count_root : bound_count t ≡ count t (t.size - 1) + inner_bound_below t t.size
    unfolding bound_count bound_below inner_bound_below sum
    bound_count_root =
        let r = t.size - 1 in
        let b : sum (count t) t.size ≡ sum (count t) (suc r) = ap (sum (count t)) (sym (root_is t tree)) in
        let c : sum (λ i. pick (inner t i) (count t i) 0) t.size ≡ sum (λ i. pick (inner t i) (count t i) 0) (suc r)
        = ap (sum (λ i. pick (inner t i) (count t i) 0)) (sym (root_is t tree)) in
        let z : pick (inner t r) (count t r) 0 ≡ 0 = pick_no (inner t r) (count t r) 0 (root_outer t tree) in
        omega (arith, inner_bound_is_lem t r (root_lt t tree))

    parts_entries : length (up_to (part t) (suc (levels t))) ≡ bound_count t + inner_bound_below t t.size + inner_below t t.size
    unfolding prefix_block
    parts_entries =
        length-up_to (part t) (suc (levels t))
        ∙ sum_cong (λ j. length (part t j)) (λ j. length (leading t j) + length (flat_map (copies t) (blocks_at t (suc j)))) (suc (levels t))
        (λ j h. length-append (leading t j) (flat_map (copies t) (blocks_at t (suc j))))
        ∙ sum_add (λ j. length (leading t j)) (λ j. length (flat_map (copies t) (blocks_at t (suc j)))) (suc (levels t))
        ∙ omega (arith, leading_entries, copies_entries, bound_count_root)

    -- the list that lifting writes
    pub prefix_entries : length (written_variables t) ≡ bound_count t + inner_bound_below t t.size + inner_below t t.size
    prefix_entries = go (look (eqb (block_count t) 0))
      where
        go : Is (eqb (block_count t) 0) → length (written_variables t) ≡ bound_count t + inner_bound_below t t.size + inner_below t t.size
        go (is_true e) = ap length (variables_none t e) ∙ sym (no_entries e)
        go (is_false e) = ap length (variables_parts t e) ∙ parts_entries

    -- and its prefix
    pub length-prefix_blocks : length (prefix_blocks t) ≡ prefix_count t
    unfolding prefix_count
    length-prefix_blocks =
        prefix_levels
        ∙ ap (λ n. pick (eqb (block_count t) 0) 0 n) (one_more (is_block (t.node (t.size - 1))) (levels t) (depth t) (depth_levels t tree))
