-- The words of a prefix: kinds 5 and 6, and ranges that follow one another from the list's first entry to its last, none empty.
-- Assumes nothing.
use mathlib.Core.Path.{◌≡◌, refl, sym, ◌∙◌, ap, subst}
use mathlib.Core.Bool.{true, false}
use mathlib.Core.List.{List, [], ◌∷◌, ◌++◌, flat_map}
use Prim.Native.Nat.{ℕ, zero, suc, ◌+◌, ◌-◌, ◌*◌, ◌/◌, ◌≤◌, ◌<◌}
use native.Mathlib.Nat.{le_of_suc-le-suc, not-suc-le-zero, mul-div_cancel_left}
use native.Mathlib.Omega.{arith}
use lib.Dec.{eqb}
use lib.ListN.{length, get_or, length-append}
use borrow.Author.Tests.{eqb-false}
use Rattle.lists.specs.Choice.{pick, pick_yes, pick_no, Is, is_true, is_false, look}
use Rattle.lists.specs.Members.{mem}
use Rattle.lists.specs.Parts.{up_to, sum}
use Rattle.lists.proofs.Members.{mem_head}
use Rattle.lists.proofs.Parts.{sum_cong, sum_positive, length_each, get_or_each}
use Rattle.formula.specs.Node.{Quantifier, exists, for_all, Table, is_block}
use Rattle.formula.specs.Form.{Block, kind_of, prefix_words}
use Rattle.formula.specs.Tree.{Tree, NoEmptyBlocks}
use Rattle.prenex_form.specs.Names.{new_names, copies, definition_variable}
use Rattle.prenex_form.specs.Levels.{blocks_at, levels}
use Rattle.prenex_form.specs.Matrix.{kept}
use Rattle.prenex_form.specs.Prefix.{block_count, leading, prefix_block, prefix_blocks, written_prefix, written_variables}
use Rattle.prenex_form.proofs.Paths.{kept_inner, inner_level, level_le_levels}
use Rattle.prenex_form.proofs.NameLaws.{length-new_names, length_copies}
use Rattle.prenex_form.proofs.PrefixNames.{prefix_length, sum_first}
use Rattle.prenex_form.proofs.Written.{level_some, level_filled}

-- the count of block k
abbrev count_word : List ℕ → ℕ → ℕ
count_word ps k = get_or ps (3 * k + 2) 0

-- a block's words, past those of the block before it
shift : (a b c : ℕ) (ps : List ℕ) (j k : ℕ) → get_or (a ∷ b ∷ c ∷ ps) (3 * suc j + k) 0 ≡ get_or ps (3 * j + k) 0
shift a b c ps j k =
    let e : 3 * suc j + k ≡ suc (suc (suc (3 * j + k))) = omega arith in
    ap (λ m. get_or (a ∷ b ∷ c ∷ ps) m 0) e

shift_kind : (a b c : ℕ) (ps : List ℕ) (j : ℕ) → get_or (a ∷ b ∷ c ∷ ps) (3 * suc j) 0 ≡ get_or ps (3 * j) 0
shift_kind a b c ps j =
    let e : 3 * suc j ≡ suc (suc (suc (3 * j))) = omega arith in
    ap (λ m. get_or (a ∷ b ∷ c ∷ ps) m 0) e

-- the counts of the blocks before one, the first block's apart
counts_first : (a b c : ℕ) (ps : List ℕ) (j : ℕ) → sum (count_word (a ∷ b ∷ c ∷ ps)) (suc j) ≡ c + sum (count_word ps) j
counts_first a b c ps j =
    sum_first (count_word (a ∷ b ∷ c ∷ ps)) j
    ∙ ap (λ m. c + m) (sum_cong (λ k. count_word (a ∷ b ∷ c ∷ ps) (suc k)) (count_word ps) j (λ k h. shift a b c ps k 2))

words_follow : (s : ℕ) (bs : List Block) (j : ℕ) → j < length bs
    → get_or (prefix_words s bs) (3 * j + 1) 0 ≡ s + sum (count_word (prefix_words s bs)) j
unfolding prefix_words sum
words_follow s [] j h = absurd (not-suc-le-zero h)
words_follow s (b ∷ bs) zero h = omega arith
words_follow s (b ∷ bs) (suc j) h =
    let c = length b.variables in
    let ps = prefix_words (s + c) bs in
    let a = kind_of b.quantifier in
    let e : sum (count_word (a ∷ s ∷ c ∷ ps)) (suc j) ≡ c + sum (count_word ps) j = counts_first a s c ps j in
    let f : get_or ps (3 * j + 1) 0 ≡ s + c + sum (count_word ps) j = words_follow (s + c) bs j (le_of_suc-le-suc h) in
    shift a s c ps j 1 ∙ omega (arith, e, f)

words_fill : (s : ℕ) (bs : List Block) → sum (count_word (prefix_words s bs)) (length bs) ≡ length (flat_map (λ (b : Block). b.variables) bs)
unfolding prefix_words sum flat_map
words_fill s [] = refl
words_fill s (b ∷ bs) =
    let c = length b.variables in
    counts_first (kind_of b.quantifier) s c (prefix_words (s + c) bs) (length bs)
    ∙ ap (λ m. c + m) (words_fill (s + c) bs)
    ∙ sym (length-append b.variables (flat_map (λ (b : Block). b.variables) bs))

kind_from_lem : (q : Quantifier) → 5 ≤ kind_of q
unfolding kind_of
kind_from_lem exists = omega arith
kind_from_lem for_all = omega arith

kind_to : (q : Quantifier) → kind_of q ≤ 6
unfolding kind_of
kind_to exists = omega arith
kind_to for_all = omega arith

-- what holds of both kinds holds of each block's
words_kind : (P : ℕ → Type 0) → ((q : Quantifier) → P (kind_of q)) → (s : ℕ) (bs : List Block) (j : ℕ) → j < length bs → P (get_or (prefix_words s bs) (3 * j) 0)
unfolding prefix_words
words_kind P each s [] j h = absurd (not-suc-le-zero h)
words_kind P each s (b ∷ bs) zero h = each b.quantifier
words_kind P each s (b ∷ bs) (suc j) h =
    let c = length b.variables in
    subst P (sym (shift_kind (kind_of b.quantifier) s c (prefix_words (s + c) bs) j)) (words_kind P each (s + c) bs j (le_of_suc-le-suc h))

-- a block's count
words_count : (d : Block) (s : ℕ) (bs : List Block) (j : ℕ) → j < length bs
    → count_word (prefix_words s bs) j ≡ length (get_or bs j d).variables
unfolding prefix_words
words_count d s [] j h = absurd (not-suc-le-zero h)
words_count d s (b ∷ bs) zero h = refl
words_count d s (b ∷ bs) (suc j) h =
    let c = length b.variables in
    shift (kind_of b.quantifier) s c (prefix_words (s + c) bs) j 2 ∙ words_count d (s + c) bs j (le_of_suc-le-suc h)

module _ (t : Table) where
  pub prefix_count_lem : length (written_prefix t) / 3 ≡ length (prefix_blocks t)
  prefix_count_lem = rw (prefix_length t) (mul-div_cancel_left (length (prefix_blocks t)) (omega arith))

  pub prefix_whole : length (written_prefix t) ≡ 3 * (length (written_prefix t) / 3)
  prefix_whole = prefix_length t ∙ ap (λ m. 3 * m) (sym prefix_count_lem)

  pub prefix_kinds_from : (j : ℕ) → j < length (written_prefix t) / 3 → 5 ≤ get_or (written_prefix t) (3 * j) 0
  unfolding written_prefix
  prefix_kinds_from j h = words_kind (λ k. 5 ≤ k) kind_from_lem 0 (prefix_blocks t) j (rw prefix_count_lem at h)

  pub prefix_kinds_to : (j : ℕ) → j < length (written_prefix t) / 3 → get_or (written_prefix t) (3 * j) 0 ≤ 6
  unfolding written_prefix
  prefix_kinds_to j h = words_kind (λ k. k ≤ 6) kind_to 0 (prefix_blocks t) j (rw prefix_count_lem at h)

  pub prefix_follow : (j : ℕ) → j < length (written_prefix t) / 3
      → get_or (written_prefix t) (3 * j + 1) 0 ≡ sum (λ k. get_or (written_prefix t) (3 * k + 2) 0) j
  unfolding written_prefix
  prefix_follow j h = words_follow 0 (prefix_blocks t) j (rw prefix_count_lem at h) ∙ omega arith

  pub prefix_fill : sum (λ k. get_or (written_prefix t) (3 * k + 2) 0) (length (written_prefix t) / 3) ≡ length (written_variables t)
  unfolding written_prefix written_variables
  prefix_fill = rw prefix_count_lem (words_fill 0 (prefix_blocks t))

-- a part for each number of the list, none empty
parts_some : (g : ℕ → List ℕ) (is : List ℕ) → 0 < length is → ((i : ℕ) → mem i is ≡ true → 0 < length (g i)) → 0 < length (flat_map g is)
unfolding flat_map
parts_some g [] some h = absurd (not-suc-le-zero some)
parts_some g (i ∷ is) some h = omega (arith, length-append (g i) (flat_map g is), h i (mem_head i is))

module _ (t : Table) (tree : Tree t) where
  -- a block that is not the root has a level
  has_level : is_block (t.node (t.size - 1)) ≡ false → (i : ℕ) → i < t.size → Is (is_block (t.node i)) → 0 < pick (is_block (t.node i)) 1 0
      → 0 < levels t
  unfolding kept
  has_level root i h (is_true b) p =
      let k : i < kept t = omega (arith, pick_no {A = ℕ} (is_block (t.node (t.size - 1))) 1 0 root) in
      omega (arith, inner_level t tree i h (kept_inner t i k b), level_le_levels t tree i h)
  has_level root i h (is_false b) p = absurd (omega (arith, pick_no {A = ℕ} (is_block (t.node i)) 1 0 b))

  some_level : is_block (t.node (t.size - 1)) ≡ false → 0 < block_count t → 0 < levels t
  unfolding block_count
  some_level root some =
      let r = sum_positive (λ i. pick (is_block (t.node i)) 1 0) t.size some in has_level root r.0 r.1 (look _) r.2

  -- Block 0 holds the root block's names or the copies of level 1, block j a definition variable of level j.
  module _ (filled : NoEmptyBlocks t) where
    block_some : (j : ℕ) → j ≤ levels t → 0 < block_count t → 0 < length (prefix_block t j).variables
    unfolding prefix_block leading
    block_some zero h some = go (look (is_block (t.node (t.size - 1))))
      where
        names : List ℕ
        names = new_names t (t.size - 1)

        first_copies : List ℕ
        first_copies = flat_map (copies t) (blocks_at t 1)

        go : Is (is_block (t.node (t.size - 1))) → 0 < length (names ++ first_copies)
        go (is_true b) =
            let k = tree.nonempty in
            omega (arith, length-append names first_copies, length-new_names t (t.size - 1), filled (t.size - 1) (omega arith) b)
        go (is_false b) =
            let some_copy : 0 < length first_copies =
            parts_some (copies t) (blocks_at t 1) (level_some t tree 0 (some_level b some))
            (λ i m. omega (arith, length_copies t i, level_filled t tree filled 1 i m)) in
            omega (arith, length-append names first_copies)
    block_some (suc j) h some =
        let own : ℕ → List ℕ = λ i. new_names t i ++ (definition_variable t i ∷ []) in
        let bs = blocks_at t (suc j) in
        omega (
          arith,
          parts_some own bs (level_some t tree j h) (λ i m. omega (arith, length-append (new_names t i) (definition_variable t i ∷ []))),
          length-append (flat_map own bs) (flat_map (copies t) (blocks_at t (suc (suc j)))),
        )

    blocks_some : (j : ℕ) → j < length (prefix_blocks t) → 0 < length (get_or (prefix_blocks t) j (prefix_block t 0)).variables
    unfolding prefix_blocks
    blocks_some j h = go (look (eqb (block_count t) 0))
      where
        bs : List Block
        bs = up_to (λ j. prefix_block t j ∷ []) (suc (levels t))

        go : Is (eqb (block_count t) 0) → 0 < length (get_or (pick (eqb (block_count t) 0) [] bs) j (prefix_block t 0)).variables
        go (is_true e) = absurd (not-suc-le-zero (rw (pick_yes _ [] bs e) at h))
        go (is_false e) =
            let some = eqb-false (block_count t) 0 e in
            let l : j < suc (levels t) = rw (pick_no _ [] bs e, length_each (prefix_block t) (suc (levels t))) at h in
            rw (pick_no _ [] bs e, get_or_each (prefix_block t) (suc (levels t)) j (prefix_block t 0) l)
            (block_some j (omega arith) (omega arith))

    pub prefix_filled : (j : ℕ) → j < length (written_prefix t) / 3 → 0 < get_or (written_prefix t) (3 * j + 2) 0
    unfolding written_prefix
    prefix_filled j h =
        let l : j < length (prefix_blocks t) = rw (prefix_count_lem t) at h in
        rw (words_count (prefix_block t 0) 0 (prefix_blocks t) j l) (blocks_some j l)
