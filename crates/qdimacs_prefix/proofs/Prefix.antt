-- The prefix blocks put one by one, each as the code reads it.
-- Assumes nothing.
use mathlib.Core.Path.{◌≡◌, sym, ◌∙◌, ap}
use mathlib.Core.Bool.{true}
use mathlib.Core.List.{List, [], ◌∷◌, ◌++◌}
use Prim.Native.Nat.{ℕ, zero, suc, ◌+◌, ◌*◌, ◌/◌, ◌≤◌}
use native.Mathlib.Numerals.{add-one}
use native.Mathlib.Omega.{arith}
use lib.Dec.{eqb}
use lib.ListN.{length, get_or, length-append}
use borrow.Author.Tests.{eqb-true}
use Rattle.lists.specs.Choice.{pick, or_cases}
use Rattle.lists.proofs.Parts.{length-up_to, sum_grows}
use Rattle.formula.specs.Words.{is_block_kind}
use Rattle.formula.specs.Form.{prefix_width, quantifier_of, kind_of, block_at, blocks_from, blocks_of}
use Rattle.form_check.specs.Verdict.{names_before}
use Rattle.form_check.proofs.Names.{names_none, names_next, names_are}
use Rattle.form_check.proofs.Entries.{read_names, read_names_lem}
use Rattle.qdimacs_prefix.specs.declared.Line.{Line}
use Rattle.qdimacs_prefix.specs.Lines.{line_kind, added_text, kind_after, run_text, run_kind, Goes, PrefixHeld}
use Rattle.qdimacs_prefix.proofs.Steps.{goes_none, goes_as, goes_run, goes_block}

-- A block's kind is that of its quantifier.
kind_read : (k : ℕ) → is_block_kind k ≡ true → kind_of (quantifier_of k) ≡ k
unfolding is_block_kind kind_of quantifier_of pick
kind_read k h = or_cases (eqb k 5) (eqb k 6) h (λ e. rw (eqb-true k 5 e)) (λ e. rw (eqb-true k 6 e))

-- A block's kind that is not 5 is 6.
pub other_kind : (k : ℕ) → is_block_kind k ≡ true → (k ≡ 5 → ⊥) → 6 ≡ k
unfolding is_block_kind
other_kind k h n = or_cases (eqb k 5) (eqb k 6) h (λ e. absurd (n (eqb-true k 5 e))) (λ e. sym (eqb-true k 6 e))

module _ (ps xs : List ℕ) where
  -- Blocks from one on, and one block more.
  blocks_last : (m j : ℕ) → blocks_from ps xs j (suc m) ≡ blocks_from ps xs j m ++ (block_at ps xs (m + j) ∷ [])
  unfolding blocks_from
  blocks_last zero j = let e : j ≡ 0 + j = omega arith in ap (λ k. block_at ps xs k ∷ []) e
  blocks_last (suc m) j =
      let e : m + suc j ≡ suc m + j = omega arith in
      ap (λ bs. block_at ps xs j ∷ bs) (blocks_last m (suc j) ∙ ap (λ k. blocks_from ps xs (suc j) m ++ (block_at ps xs k ∷ [])) e)

  -- The names of the first blocks are not too many.
  pub begun_few : (j : ℕ) → PrefixHeld ps xs → j ≤ length ps / prefix_width → length (names_before ps xs j) ≤ 77824
  unfolding names_before
  begun_few j w h =
      let g : ℕ → List ℕ = λ k. (block_at ps xs k).variables in
      let all = length ps / prefix_width in
      omega (arith, w.few, ap length (names_are ps xs), length-up_to g j, length-up_to g all, sum_grows (λ k. length (g k)) j all h)

  pub no_names : length (names_before ps xs 0) ≡ 0
  no_names = ap length (names_none ps xs)

  pub more_names_lem : (j : ℕ) → length (names_before ps xs (j + 1)) ≡ length (names_before ps xs j) + length (block_at ps xs j).variables
  more_names_lem j = rw add-one (ap length (names_next ps xs j) ∙ length-append (names_before ps xs j) (block_at ps xs j).variables)

  -- Putting none of them, one more, and all.
  pub blocks_none : {before : List ℕ} {l : Line} → Goes before l (run_text (line_kind l) (blocks_from ps xs 0 0)) (run_kind (line_kind l) (blocks_from ps xs 0 0)) before l
  unfolding run_text run_kind blocks_from
  blocks_none = goes_none

  pub blocks_next : {before mid after : List ℕ} {l m n : Line} (k j : ℕ)
      → Goes before l (run_text k (blocks_from ps xs 0 j)) (run_kind k (blocks_from ps xs 0 j)) mid m
      → Goes mid m (run_text (line_kind m) (block_at ps xs j ∷ [])) (run_kind (line_kind m) (block_at ps xs j ∷ [])) after n
      → Goes before l (run_text k (blocks_from ps xs 0 (j + 1))) (run_kind k (blocks_from ps xs 0 (j + 1))) after n
  blocks_next k j a b =
      let e : j + 0 ≡ j = omega arith in
      rw (add-one, blocks_last j 0, e) (goes_run k (blocks_from ps xs 0 j) (block_at ps xs j ∷ []) a b)

  pub blocks_all : {before after : List ℕ} {l n : Line} (k j : ℕ) → j ≡ length ps / prefix_width
      → Goes before l (run_text k (blocks_from ps xs 0 j)) (run_kind k (blocks_from ps xs 0 j)) after n
      → Goes before l (run_text k (blocks_of ps xs)) (run_kind k (blocks_of ps xs)) after n
  unfolding blocks_of
  blocks_all k j e a = rw (sym e) a

  -- A block as the code reads it.
  pub block_read : {before after : List ℕ} {l n : Line} (k j : ℕ) → is_block_kind (get_or ps (prefix_width * j) 0) ≡ true
      → Goes before l (added_text k (get_or ps (prefix_width * j) 0) (read_names ps xs j)) (kind_after k (get_or ps (prefix_width * j) 0) (read_names ps xs j)) after n
      → Goes before l (run_text k (block_at ps xs j ∷ [])) (run_kind k (block_at ps xs j ∷ [])) after n
  unfolding block_at
  block_read k j h a =
      let kind = kind_read (get_or ps (prefix_width * j) 0) h in
      let names = sym (read_names_lem ps xs j) in
      goes_block k (block_at ps xs j) (goes_as (λ i. added_text k (kind i) (names i)) (λ i. kind_after k (kind i) (names i)) a)
