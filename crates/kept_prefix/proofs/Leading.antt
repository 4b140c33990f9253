-- The leading blocks of a table: they are blocks, no name of theirs repeats, and there are no more such.
-- Assumes nothing.
use mathlib.Core.Path.{◌≡◌, refl, sym, ◌∙◌, ap, subst}
use mathlib.Core.Bool.{true, false, not}
use mathlib.Core.List.{List, [], ◌∷◌, ◌++◌, flat_map, append-nil}
use Prim.Native.Nat.{ℕ, zero, suc, ◌+◌, ◌-◌, ◌≤◌, ◌<◌}
use native.Mathlib.Numerals.{add-one}
use native.Mathlib.Omega.{arith}
use lib.Dec.{ltb}
use borrow.Author.Tests.{ltb-true, ltb-false, not-true, not-false}
use Rattle.lists.specs.Choice.{Is, is_true, is_false, look, clash, or_neither_left, or_neither_right, or_cases}
use Rattle.lists.specs.Members.{distinct}
use Rattle.lists.specs.Parts.{up_to}
use Rattle.lists.proofs.Search.{lowest_holds, lowest_before}
use Rattle.kept_prefix.proofs.Keep.{distinct_left}
use Rattle.lists.proofs.Parts.{flat_map_append, up_to_split}
use Rattle.formula.specs.Node.{Table, is_block, bound}
use Rattle.formula.specs.Form.{Block}
use Rattle.kept_prefix.specs.Blocks.{prefix_names}
use Rattle.kept_prefix.specs.Leading.{block_of, from_root, outermost, stops, leading_count, leading_blocks}
use Rattle.kept_prefix.specs.Promise.{AllBlocks, LeadingMost}

-- One block more from the root down, and its names.
pub outermost_next : (t : Table) (k : ℕ) → outermost t (suc k) ≡ outermost t k ++ (block_of (from_root t k) ∷ [])
unfolding outermost up_to
outermost_next t k = refl

pub names_append : (bs cs : List Block) → prefix_names (bs ++ cs) ≡ prefix_names bs ++ prefix_names cs
unfolding prefix_names
names_append = flat_map_append (λ (b : Block). b.variables)

pub names_next : (t : Table) (k : ℕ) → prefix_names (outermost t (suc k)) ≡ prefix_names (outermost t k) ++ bound (from_root t k)
unfolding prefix_names flat_map block_of
names_next t k =
    ap prefix_names (outermost_next t k)
    ∙ (names_append (outermost t k) (block_of (from_root t k) ∷ [])
    ∙ ap (λ (xs : List ℕ). prefix_names (outermost t k) ++ xs) (append-nil (bound (from_root t k))))

-- The same, with the count as the code has it.
pub names_one_more : (t : Table) (k : ℕ) → prefix_names (outermost t (k + 1)) ≡ prefix_names (outermost t k) ++ bound (from_root t k)
names_one_more t k = rw add-one (names_next t k)

-- No name repeats among fewer blocks.
fewer_apart : (t : Table) (j k : ℕ) → j ≤ k → distinct (prefix_names (outermost t k)) ≡ true → distinct (prefix_names (outermost t j)) ≡ true
unfolding outermost
fewer_apart t j k h d =
    let r = up_to_split (λ i. block_of (from_root t i) ∷ []) j (k - j) in
    let s : k - j + j ≡ k = omega arith in
    let e : outermost t k ≡ outermost t j ++ r.0 = subst (λ n. outermost t n ≡ outermost t j ++ r.0) s r.1 in
    distinct_left (prefix_names (outermost t j)) (prefix_names r.0) (sym (ap distinct (ap prefix_names e ∙ names_append (outermost t j) r.0)) ∙ d)

module _ (t : Table) where
  -- what stops the search
  stop_cases : {P : Type 0} (j : ℕ) → stops t j ≡ true → (is_block (from_root t j) ≡ false → P) → (distinct (prefix_names (outermost t (suc j))) ≡ false → P) → P
  unfolding stops
  stop_cases j h f g = or_cases _ _ h (λ e. f (not-true _ e)) (λ e. g (not-true _ e))

  leading_goes : (j : ℕ) → j < leading_count t → stops t j ≡ false
  unfolding leading_count
  leading_goes j h = lowest_before (stops t) t.size j h

  leading_stops : leading_count t < t.size → stops t (leading_count t) ≡ true
  unfolding leading_count
  leading_stops h = lowest_holds (stops t) t.size h

  goes_block : (j : ℕ) → stops t j ≡ false → is_block (from_root t j) ≡ true
  unfolding stops
  goes_block j h = not-false _ (or_neither_left _ _ h)

  goes_apart : (j : ℕ) → stops t j ≡ false → distinct (prefix_names (outermost t (suc j))) ≡ true
  unfolding stops
  goes_apart j h = not-false _ (or_neither_right (not (is_block (from_root t j))) _ h)

  apart_to : (k : ℕ) → ((j : ℕ) → j < k → stops t j ≡ false) → distinct (prefix_names (outermost t k)) ≡ true
  unfolding outermost up_to prefix_names flat_map distinct
  apart_to zero h = refl
  apart_to (suc k) h = goes_apart k (h k (omega arith))

  most : (k : ℕ) → AllBlocks t k → k ≤ t.size → distinct (prefix_names (outermost t k)) ≡ true → k ≤ leading_count t
  most k bs h d = go (look (ltb (leading_count t) k))
    where
      go : Is (ltb (leading_count t) k) → k ≤ leading_count t
      go (is_true e) =
          let l = ltb-true (leading_count t) k e in
          stop_cases (leading_count t) (leading_stops (omega arith))
          (λ n. clash (bs (leading_count t) l) n)
          (λ n. clash (fewer_apart t (suc (leading_count t)) k (omega arith) d) n)
      go (is_false e) = ltb-false _ _ e

pub leading_most : (t : Table) → LeadingMost t
unfolding leading_blocks
leading_most t =
    record { blocks = λ j h. goes_block t j (leading_goes t j h); apart = apart_to t (leading_count t) (leading_goes t); most = most t }
