-- Laws of what stands in front of a form, block by block, of names that are kept one by one, and of ranges that are moved.
-- Assumes nothing.
use mathlib.Core.Path.{◌≡◌, refl, sym, ◌∙◌, ap}
use mathlib.Core.Bool.{Bool}
use mathlib.Core.List.{List, [], ◌∷◌, ◌++◌, flat_map, append-nil}
use Prim.Native.Nat.{ℕ, zero, suc, ◌+◌, ◌-◌, ◌*◌, ◌≤◌, ◌<◌}
use native.Mathlib.Nat.{add-zero}
use native.Mathlib.Numerals.{add-one}
use native.Mathlib.Omega.{arith}
use lib.ListN.{length, get_or, take, drop, length-append, take-append-drop}
use lib.Seq.{take-suc, get_or-drop}
use borrow.Author.Tests.{eq-eqb, ne_eqb}
use Rattle.lists.specs.Choice.{pick, pick_yes, pick_no}
use Rattle.kept_prefix.specs.Blocks.{keep, prefix_names, filled_blocks}
use Rattle.lists.specs.Parts.{up_to, overwrite}
use Rattle.kept_prefix.proofs.Keep.{keep_append}
use Rattle.lists.proofs.Overwrite.{overwrite_nil, overwrite_append, get_or_overwrite_after}
use Rattle.lists.proofs.Parts.{up_to_split}
use Rattle.lists.proofs.Passing.{chosen_length}
use Rattle.formula.specs.Node.{Table, bound}
use Rattle.formula.specs.Form.{Block, kind_of, prefix_words}
use Rattle.prenex_form.specs.Levels.{quantifier_at}
use Rattle.kept_prefix.specs.Leading.{block_of, from_root, outermost}
use Rattle.kept_prefix.specs.Kept.{stands, kept_block, front_blocks}
use Rattle.kept_prefix.proofs.Leading.{names_one_more, names_append}
use Rattle.kept_prefix.proofs.Kept.{front_append, front_next, front_kept}
use Rattle.front_writer.specs.Written.{front_words, front_names, FrontFits, WrittenTo, moved, Movable}

-- What stands in front of one number of blocks stands in front of an equal one.
pub written_of_same : {t : Table} {i j : ℕ} {p v q w : List ℕ} → i ≡ j → WrittenTo t i p v q w → WrittenTo t j p v q w
written_of_same e h = rw (sym e) h

pub words_of_same : (t : Table) {i j : ℕ} → i ≡ j → length (front_words t i) ≡ length (front_words t j)
words_of_same t e = ap (λ k. length (front_words t k)) e

pub names_of_same : (t : Table) {i j : ℕ} → i ≡ j → length (front_names t i) ≡ length (front_names t j)
names_of_same t e = ap (λ k. length (front_names t k)) e

-- One part more after what is written from a buffer's start on.
write_more : (out cur next a b whole : List ℕ) (at : ℕ) → cur ≡ overwrite out 0 a → at ≡ length a → next ≡ overwrite cur at b → whole ≡ a ++ b
    → length whole ≤ length out → next ≡ overwrite out 0 whole
write_more out cur next a b whole at p e q w fits =
    let z : at ≡ 0 + length a = omega arith in
    let room : 0 + length a + length b ≤ length out = omega (arith, ap length w, length-append a b) in
    q ∙ ap (λ (l : List ℕ). overwrite l at b) p ∙ rw (z, w) (overwrite_append out 0 a b room)

-- The words of blocks in two parts: the ranges of the second begin after the names of the first.
pub words_append : (s : ℕ) (bs cs : List Block) → prefix_words s (bs ++ cs) ≡ prefix_words s bs ++ prefix_words (s + length (prefix_names bs)) cs
unfolding prefix_words prefix_names flat_map
words_append s [] cs = ap (λ n. prefix_words n cs) (sym (add-zero s))
words_append s (b ∷ bs) cs =
    let xs = b.variables in
    let e : s + length xs + length (prefix_names bs) ≡ s + length (xs ++ prefix_names bs) = omega (arith, length-append xs (prefix_names bs)) in
    ap (λ (ws : List ℕ). kind_of b.quantifier ∷ s ∷ length xs ∷ ws)
    (words_append (s + length xs) bs cs ∙ ap (λ n. prefix_words (s + length xs) bs ++ prefix_words n cs) e)

module _ (t : Table) (k : ℕ) where
  -- the names kept of node k from the root down, and the words of its block
  abbrev pub kept_names : List ℕ
  kept_names = keep (stands t) (bound (from_root t k))

  abbrev kept_words : List ℕ
  kept_words = kind_of (quantifier_at (from_root t k)) ∷ length (front_names t k) ∷ length kept_names ∷ []

  front_one_more : front_blocks t (outermost t (k + 1)) ≡ front_blocks t (outermost t k) ++ front_blocks t (block_of (from_root t k) ∷ [])
  front_one_more = rw add-one (front_next t k)

  -- a block that keeps no name goes, another is one more
  front_same : length kept_names ≡ 0 → front_blocks t (outermost t (k + 1)) ≡ front_blocks t (outermost t k)
  unfolding front_blocks filled_blocks kept_block block_of
  front_same e =
      front_one_more
      ∙ ap (λ (bs : List Block). front_blocks t (outermost t k) ++ bs) (pick_yes _ _ _ (eq-eqb (length kept_names) 0 e))
      ∙ append-nil _

  front_more : (length kept_names ≡ 0 → ⊥)
      → front_blocks t (outermost t (k + 1)) ≡ front_blocks t (outermost t k) ++ (kept_block (stands t) (block_of (from_root t k)) ∷ [])
  unfolding front_blocks filled_blocks kept_block block_of
  front_more n =
      front_one_more
      ∙ ap (λ (bs : List Block). front_blocks t (outermost t k) ++ bs) (pick_no _ _ _ (ne_eqb (length kept_names) 0 n))

  words_same : length kept_names ≡ 0 → front_words t (k + 1) ≡ front_words t k
  unfolding front_words
  words_same e = ap (prefix_words 0) (front_same e)

  words_more : (length kept_names ≡ 0 → ⊥) → front_words t (k + 1) ≡ front_words t k ++ kept_words
  unfolding front_words front_names prefix_words kept_block block_of
  words_more n =
      ap (prefix_words 0) (front_more n)
      ∙ words_append 0 (front_blocks t (outermost t k)) (kept_block (stands t) (block_of (from_root t k)) ∷ [])
      ∙ ap (λ (s : ℕ). front_words t k ++ prefix_words s (kept_block (stands t) (block_of (from_root t k)) ∷ [])) (omega arith)

  names_next : front_names t (k + 1) ≡ front_names t k ++ kept_names
  unfolding front_names
  names_next =
      front_kept t (outermost t (k + 1))
      ∙ ap (keep (stands t)) (names_one_more t k)
      ∙ keep_append (stands t) (prefix_names (outermost t k)) (bound (from_root t k))
      ∙ ap (λ (xs : List ℕ). xs ++ kept_names) (sym (front_kept t (outermost t k)))

  names_count : length (front_names t (k + 1)) ≡ length (front_names t k) + length kept_names
  names_count = ap length names_next ∙ length-append (front_names t k) kept_names

  pub names_room : (prefix variables : List ℕ) (names : ℕ) → FrontFits t (k + 1) prefix variables → names ≡ length (front_names t k)
      → names + length kept_names ≤ length variables
  names_room prefix variables names fits a = omega (arith, names_count, fits.names_fit)

  -- node k's names written after those above it, and its block where some are kept
  module _ (blocks names count : ℕ) (kept : List ℕ) (b : 3 * blocks ≡ length (front_words t k)) (a : names ≡ length (front_names t k))
      (e : kept ≡ kept_names) (n : count ≡ length kept) where
    count_is : count ≡ length kept_names
    count_is = n ∙ ap length e

    pub size_same : count ≡ 0 → (3 * blocks ≡ length (front_words t (k + 1))) × (names ≡ length (front_names t (k + 1)))
    size_same z = (omega (arith, ap length (words_same (sym count_is ∙ z))), omega (arith, names_count, count_is))

    pub size_more : (count ≡ 0 → ⊥) → (3 * (blocks + 1) ≡ length (front_words t (k + 1))) × (names + count ≡ length (front_names t (k + 1)))
    size_more f =
        let l : length (front_words t (k + 1)) ≡ length (front_words t k) + 3 = ap length (words_more (λ z. f (count_is ∙ z))) ∙ length-append (front_words t k) kept_words in
        (omega arith, omega (arith, names_count, count_is))

    module _ (prefix variables : List ℕ) (fits : FrontFits t (k + 1) prefix variables) (cur list list' : List ℕ) (w : WrittenTo t k prefix variables cur list)
        (new : list' ≡ overwrite list names kept) where
      names_step : list' ≡ overwrite variables 0 (front_names t (k + 1))
      names_step =
          write_more variables list list' (front_names t k) kept _ names w.names_are a new
          (names_next ∙ ap (λ (xs : List ℕ). front_names t k ++ xs) (sym e)) fits.names_fit

      pub written_same : count ≡ 0 → WrittenTo t (k + 1) prefix variables cur list'
      written_same z =
          record { words_are = w.words_are ∙ ap (overwrite prefix 0) (sym (words_same (sym count_is ∙ z))); names_are = names_step }

      pub written_more : (count ≡ 0 → ⊥) → (kind : ℕ) → kind ≡ kind_of (quantifier_at (from_root t k)) → (cur' : List ℕ)
          → cur' ≡ overwrite cur (3 * blocks) (kind ∷ names ∷ count ∷ []) → WrittenTo t (k + 1) prefix variables cur' list'
      written_more f kind q cur' p =
          let block : kept_words ≡ kind ∷ names ∷ count ∷ [] = rw (q, a, count_is) in
          record {
            words_are = write_more prefix cur cur' (front_words t k) (kind ∷ names ∷ count ∷ []) _ (3 * blocks) w.words_are b p
                (words_more (λ z. f (count_is ∙ z)) ∙ ap (λ (ws : List ℕ). front_words t k ++ ws) block) fits.words_fit;
            names_are = names_step;
          }

pub none_sized : (t : Table) → (0 ≡ length (front_words t 0)) × (0 ≡ length (front_names t 0))
unfolding front_words front_names outermost up_to front_blocks filled_blocks prefix_words prefix_names flat_map
none_sized t = (refl, refl)

pub none_written_lem : (t : Table) (prefix variables : List ℕ) → WrittenTo t 0 prefix variables prefix variables
unfolding front_words front_names outermost up_to front_blocks filled_blocks prefix_words prefix_names flat_map
none_written_lem t prefix variables = record { words_are = sym (overwrite_nil prefix 0); names_are = sym (overwrite_nil variables 0) }

-- Fewer blocks have fewer words and names.
front_split : (t : Table) (j k : ℕ) → j ≤ k → (rest : List Block) × (front_blocks t (outermost t k) ≡ front_blocks t (outermost t j) ++ rest)
unfolding outermost
front_split t j k h =
    let r = up_to_split (λ i. block_of (from_root t i) ∷ []) j (k - j) in
    let s : k - j + j ≡ k = omega arith in
    (front_blocks t r.0, ap (λ (n : ℕ). front_blocks t (outermost t n)) (sym s) ∙ ap (front_blocks t) r.1 ∙ front_append t (outermost t j) r.0)

pub front_fits : (t : Table) (j k : ℕ) (prefix variables cur names : List ℕ) → j ≤ k → length cur ≡ length prefix → length names ≡ length variables
    → FrontFits t k prefix variables → FrontFits t j cur names
unfolding front_words front_names
front_fits t j k prefix variables cur names h p v fits =
    let r = front_split t j k h in
    let fewer = front_blocks t (outermost t j) in
    let ws : front_words t k ≡ front_words t j ++ prefix_words (length (prefix_names fewer)) r.0 = ap (prefix_words 0) r.1 ∙ words_append 0 fewer r.0 ∙ ap (λ (s : ℕ). front_words t j ++ prefix_words s r.0) (omega arith) in
    let xs : front_names t k ≡ front_names t j ++ prefix_names r.0 = ap prefix_names r.1 ∙ names_append fewer r.0 in
    record {
      words_fit = omega (arith, ap length ws, length-append (front_words t j) (prefix_words (length (prefix_names fewer)) r.0), fits.words_fit);
      names_fit = omega (arith, ap length xs, length-append (front_names t j) (prefix_names r.0), fits.names_fit);
    }

-- The words of the first blocks of a prefix, one block more.
abbrev moved_at : ℕ → ℕ → List ℕ → List ℕ
moved_at j by ps = get_or ps (3 * j) 0 ∷ (get_or ps (3 * j + 1) 0 + by) ∷ get_or ps (3 * j + 2) 0 ∷ []

pub length_moved : (m by : ℕ) (ps : List ℕ) → length (moved m by ps) ≡ 3 * m
unfolding moved
length_moved zero by ps = refl
length_moved (suc m) by ps = omega (arith, length_moved m by (drop 3 ps))

get_or_later : (ps : List ℕ) (j i : ℕ) → get_or (drop 3 ps) (3 * j + i) 0 ≡ get_or ps (3 * suc j + i) 0
get_or_later ps j i = get_or-drop 3 ps (3 * j + i) 0 ∙ ap (λ n. get_or ps n 0) (omega arith)

moved_later : (j by : ℕ) (ps : List ℕ) → moved_at j by (drop 3 ps) ≡ moved_at (suc j) by ps
moved_later j by ps =
    let e0 : get_or (drop 3 ps) (3 * j) 0 ≡ get_or ps (3 * suc j) 0 = get_or-drop 3 ps (3 * j) 0 ∙ ap (λ n. get_or ps n 0) (omega arith) in
    rw (e0, get_or_later ps j 1, get_or_later ps j 2)

moved_next : (j by : ℕ) (ps : List ℕ) → moved (suc j) by ps ≡ moved j by ps ++ moved_at j by ps
unfolding moved
moved_next zero by ps = refl
moved_next (suc j) by ps =
    ap (λ (ws : List ℕ). get_or ps 0 0 ∷ (get_or ps 1 0 + by) ∷ get_or ps 2 0 ∷ ws)
    (moved_next j by (drop 3 ps) ∙ ap (λ (ws : List ℕ). moved j by (drop 3 ps) ++ ws) (moved_later j by ps))

-- Moved, the words of blocks are those of blocks whose ranges begin as much later.
pub moved_words : (s by : ℕ) (bs : List Block) (rest : List ℕ) → moved (length bs) by (prefix_words s bs ++ rest) ≡ prefix_words (s + by) bs
unfolding moved prefix_words
moved_words s by [] rest = refl
moved_words s by (b ∷ bs) rest =
    let xs = b.variables in
    let e : s + length xs + by ≡ s + by + length xs = omega arith in
    ap (λ (ws : List ℕ). kind_of b.quantifier ∷ (s + by) ∷ length xs ∷ ws)
    (moved_words (s + length xs) by bs rest ∙ ap (λ n. prefix_words n bs) e)

-- One turn of each loop that writes: names are kept up to entry e, and ranges are moved up to block j.
module _ (p : ℕ → Bool) (xs : List ℕ) (e : ℕ) (h : e < length xs) where
  abbrev chosen : List ℕ
  chosen = pick (p (get_or xs e 0)) (get_or xs e 0 ∷ []) []

  kept_next : keep p (take (e + 1) xs) ≡ keep p (take e xs) ++ chosen
  unfolding keep
  kept_next = rw (add-one e, take-suc xs e 0 h) (keep_append p (take e xs) (get_or xs e 0 ∷ []))

  pub kept_count : length (keep p (take (e + 1) xs)) ≡ length (keep p (take e xs)) + pick (p (get_or xs e 0)) 1 0
  kept_count =
      ap length kept_next
      ∙ (length-append (keep p (take e xs)) chosen
      ∙ ap (λ (n : ℕ). length (keep p (take e xs)) + n) (chosen_length (p (get_or xs e 0)) (get_or xs e 0)))

  pub kept_room : length (keep p (take (e + 1) xs)) ≤ length (keep p xs)
  kept_room =
      let whole : keep p xs ≡ keep p (take (e + 1) xs) ++ keep p (drop (e + 1) xs) = ap (keep p) (sym (take-append-drop (e + 1) xs)) ∙ keep_append p (take (e + 1) xs) (drop (e + 1) xs) in
      omega (arith, ap length whole, length-append (keep p (take (e + 1) xs)) (keep p (drop (e + 1) xs)))

  pub kept_turn : (out cur next : List ℕ) (at : ℕ) → cur ≡ overwrite out 0 (keep p (take e xs)) → at ≡ length (keep p (take e xs))
      → next ≡ overwrite cur at chosen → length (keep p xs) ≤ length out → next ≡ overwrite out 0 (keep p (take (e + 1) xs))
  kept_turn out cur next at c n q fits =
      write_more out cur next (keep p (take e xs)) chosen _ at c n q kept_next (omega (arith, kept_room))

module _ (blocks by j : ℕ) (ps cur : List ℕ) (m : Movable blocks by ps) (h : j < blocks) (c : cur ≡ overwrite ps 0 (moved j by ps)) where
  there : (i : ℕ) → get_or cur (3 * j + i) 0 ≡ get_or ps (3 * j + i) 0
  there i =
      let l : length (moved j by ps) ≡ 3 * j = length_moved j by ps in
      ap (λ (l : List ℕ). get_or l (3 * j + i) 0) c
      ∙ get_or_overwrite_after ps 0 (moved j by ps) (omega (arith, m.blocks_there)) (3 * j + i) 0 (omega arith)

  pub move_fits : get_or cur (3 * j + 1) 0 + by < 4294967296
  move_fits = rw (there 1) (m.firsts_fit j h)

  moved_there : moved_at j by cur ≡ moved_at j by ps
  moved_there =
      let z : 3 * j ≡ 3 * j + 0 = omega arith in
      let e0 : get_or cur (3 * j) 0 ≡ get_or ps (3 * j) 0 = ap (λ (n : ℕ). get_or cur n 0) z ∙ there 0 ∙ ap (λ (n : ℕ). get_or ps n 0) (sym z) in
      rw (e0, there 1, there 2)

  pub moved_turn : (next : List ℕ) → next ≡ overwrite cur (3 * j) (moved_at j by cur) → next ≡ overwrite ps 0 (moved (j + 1) by ps)
  moved_turn next q =
      let l : length (moved (j + 1) by ps) ≡ 3 * (j + 1) = length_moved (j + 1) by ps in
      write_more ps cur next (moved j by ps) (moved_at j by ps) _ (3 * j) c (sym (length_moved j by ps))
      (q ∙ ap (overwrite cur (3 * j)) moved_there) (rw (add-one j) (moved_next j by ps)) (omega (arith, m.blocks_there))
