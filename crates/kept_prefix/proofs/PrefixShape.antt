-- The words of any blocks, each of which binds a variable: kinds 5 and 6, and ranges that follow one another from the list's first entry
-- to its last, none empty. prenex_form (proofs/PrefixShape.antt) says this of the prefix of a lift.
-- Assumes nothing.
use mathlib.Core.Path.{◌≡◌, refl, sym, ◌∙◌, ap, subst}
use mathlib.Core.List.{List, [], ◌∷◌, flat_map}
use Prim.Native.Nat.{ℕ, zero, suc, ◌+◌, ◌*◌, ◌/◌, ◌≤◌, ◌<◌}
use native.Mathlib.Nat.{le_of_suc-le-suc, not-suc-le-zero, mul-div_cancel_left}
use native.Mathlib.Omega.{arith}
use lib.ListN.{length, get_or, length-append}
use Rattle.lists.specs.Parts.{sum}
use Rattle.lists.proofs.Parts.{sum_cong}
use Rattle.formula.specs.Node.{Quantifier, exists, for_all, Table}
use Rattle.formula.specs.Form.{Block, kind_of, prefix_words}
use Rattle.formula.specs.Tree.{Tree, NoEmptyBlocks}
use Rattle.formula.proofs.Prefix.{length-prefix_words}
use Rattle.prenex_form.specs.Prefix.{prefix_blocks, written_prefix}
use Rattle.prenex_form.proofs.PrefixNames.{sum_first}
use Rattle.prenex_form.proofs.PrefixShape.{prefix_count_lem, prefix_filled}
use Rattle.kept_prefix.specs.Blocks.{prefix_names}
use Rattle.kept_prefix.proofs.Blocks.{Filled}

-- the count of block k
abbrev count_word : List ℕ → ℕ → ℕ
count_word ps k = get_or ps (3 * k + 2) 0

-- a block's words, past those of the block before it
shift : (a b c : ℕ) (ps : List ℕ) (j k : ℕ) → get_or (a ∷ b ∷ c ∷ ps) (3 * suc j + k) 0 ≡ get_or ps (3 * j + k) 0
shift a b c ps j k =
    let e : 3 * suc j + k ≡ suc (suc (suc (3 * j + k))) = omega arith in
    ap (λ m. get_or (a ∷ b ∷ c ∷ ps) m 0) e

shift_kind : (a b c : ℕ) (ps : List ℕ) (j : ℕ) → get_or (a ∷ b ∷ c ∷ ps) (3 * suc j) 0 ≡ get_or ps (3 * j) 0
shift_kind a b c ps j =
    let e : 3 * suc j ≡ suc (suc (suc (3 * j))) = omega arith in
    ap (λ m. get_or (a ∷ b ∷ c ∷ ps) m 0) e

-- the counts of the blocks before one, the first block's apart
counts_first : (a b c : ℕ) (ps : List ℕ) (j : ℕ) → sum (count_word (a ∷ b ∷ c ∷ ps)) (suc j) ≡ c + sum (count_word ps) j
counts_first a b c ps j =
    sum_first (count_word (a ∷ b ∷ c ∷ ps)) j
    ∙ ap (λ m. c + m) (sum_cong (λ k. count_word (a ∷ b ∷ c ∷ ps) (suc k)) (count_word ps) j (λ k h. shift a b c ps k 2))

words_follow : (s : ℕ) (bs : List Block) (j : ℕ) → j < length bs
    → get_or (prefix_words s bs) (3 * j + 1) 0 ≡ s + sum (count_word (prefix_words s bs)) j
unfolding prefix_words sum
words_follow s [] j h = absurd (not-suc-le-zero h)
words_follow s (b ∷ bs) zero h = omega arith
words_follow s (b ∷ bs) (suc j) h =
    let c = length b.variables in
    let ps = prefix_words (s + c) bs in
    let a = kind_of b.quantifier in
    let e : sum (count_word (a ∷ s ∷ c ∷ ps)) (suc j) ≡ c + sum (count_word ps) j = counts_first a s c ps j in
    let f : get_or ps (3 * j + 1) 0 ≡ s + c + sum (count_word ps) j = words_follow (s + c) bs j (le_of_suc-le-suc h) in
    shift a s c ps j 1 ∙ omega (arith, e, f)

words_fill : (s : ℕ) (bs : List Block) → sum (count_word (prefix_words s bs)) (length bs) ≡ length (flat_map (λ (b : Block). b.variables) bs)
unfolding prefix_words sum flat_map
words_fill s [] = refl
words_fill s (b ∷ bs) =
    let c = length b.variables in
    counts_first (kind_of b.quantifier) s c (prefix_words (s + c) bs) (length bs)
    ∙ ap (λ m. c + m) (words_fill (s + c) bs)
    ∙ sym (length-append b.variables (flat_map (λ (b : Block). b.variables) bs))

kind_from_lem : (q : Quantifier) → 5 ≤ kind_of q
unfolding kind_of
kind_from_lem exists = omega arith
kind_from_lem for_all = omega arith

kind_to : (q : Quantifier) → kind_of q ≤ 6
unfolding kind_of
kind_to exists = omega arith
kind_to for_all = omega arith

-- what holds of both kinds holds of each block's
words_kind : (P : ℕ → Type 0) → ((q : Quantifier) → P (kind_of q)) → (s : ℕ) (bs : List Block) (j : ℕ) → j < length bs → P (get_or (prefix_words s bs) (3 * j) 0)
unfolding prefix_words
words_kind P each s [] j h = absurd (not-suc-le-zero h)
words_kind P each s (b ∷ bs) zero h = each b.quantifier
words_kind P each s (b ∷ bs) (suc j) h =
    let c = length b.variables in
    subst P (sym (shift_kind (kind_of b.quantifier) s c (prefix_words (s + c) bs) j)) (words_kind P each (s + c) bs j (le_of_suc-le-suc h))

-- a block's count
words_count : (d : Block) (s : ℕ) (bs : List Block) (j : ℕ) → j < length bs
    → count_word (prefix_words s bs) j ≡ length (get_or bs j d).variables
unfolding prefix_words
words_count d s [] j h = absurd (not-suc-le-zero h)
words_count d s (b ∷ bs) zero h = refl
words_count d s (b ∷ bs) (suc j) h =
    let c = length b.variables in
    shift (kind_of b.quantifier) s c (prefix_words (s + c) bs) j 2 ∙ words_count d (s + c) bs j (le_of_suc-le-suc h)

module _ (bs : List Block) where
  abbrev words : List ℕ
  words = prefix_words 0 bs

  pub words_blocks : length words / 3 ≡ length bs
  words_blocks = rw (length-prefix_words 0 bs) (mul-div_cancel_left (length bs) (omega arith))

  pub words_whole : length words ≡ 3 * (length words / 3)
  words_whole = length-prefix_words 0 bs ∙ ap (λ m. 3 * m) (sym words_blocks)

  pub words_kinds_from : (j : ℕ) → j < length words / 3 → 5 ≤ get_or words (3 * j) 0
  words_kinds_from j h = words_kind (λ k. 5 ≤ k) kind_from_lem 0 bs j (rw words_blocks at h)

  pub words_kinds_to : (j : ℕ) → j < length words / 3 → get_or words (3 * j) 0 ≤ 6
  words_kinds_to j h = words_kind (λ k. k ≤ 6) kind_to 0 bs j (rw words_blocks at h)

  pub words_ranges_follow : (j : ℕ) → j < length words / 3 → get_or words (3 * j + 1) 0 ≡ sum (λ k. get_or words (3 * k + 2) 0) j
  words_ranges_follow j h = words_follow 0 bs j (rw words_blocks at h) ∙ omega arith

  pub words_ranges_fill : sum (λ k. get_or words (3 * k + 2) 0) (length words / 3) ≡ length (prefix_names bs)
  unfolding prefix_names
  words_ranges_fill = rw words_blocks (words_fill 0 bs)

  pub words_filled : Filled bs → (j : ℕ) → j < length words / 3 → 0 < get_or words (3 * j + 2) 0
  words_filled filled j h =
      let d : Block = record { quantifier = exists; variables = [] } in
      let l : j < length bs = rw words_blocks at h in
      rw (words_count d 0 bs j l) (filled d j l)

-- Each block of a lift binds a variable.
pub blocks_filled : (t : Table) → Tree t → NoEmptyBlocks t → Filled (prefix_blocks t)
unfolding written_prefix
blocks_filled t tree filled d j h =
    rw (words_count d 0 (prefix_blocks t) j h) at (prefix_filled t tree filled j (rw (prefix_count_lem t) h))
