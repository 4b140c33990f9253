-- Two tables that meet all that is asked, and two that meet all but equal highest numbers (request S-12).
-- Assumes nothing.
use Rattle.std.specs.Prelude.{List, [], ◌∷◌, ◌≡◌, ℕ}
use Rattle.formula.specs.Node.{Table}
use Rattle.formula.specs.Words.{table_of}
use Rattle.refusals.specs.Verdict.{accepted}
use Rattle.acceptance.specs.Verdict.{verdict}
use Rattle.prenex_form.specs.Names.{highest_number}
use Rattle.prenex_form.specs.Matrix.{written_nodes}
use Rattle.alpha_equivalence.specs.AlphaEquivalence.{AlphaEquivalent, Interchangeable}

-- exists x: x, with the list x
abbrev pub itself_words : ℕ → List ℕ
itself_words x =
    2 ∷ x ∷ 0 ∷ 0 ∷
    5 ∷ 0 ∷ 1 ∷ 0 ∷
    []

abbrev pub itself : ℕ → Table
itself x = table_of (itself_words x) (x ∷ [])

-- "With unequal ones this fails": exists 1: 1 and exists 2: 2 meet all that is asked but equal highest numbers, and their forms differ. The
-- theorem `unequal_highest` (proofs/Examples.antt).
pub record UnequalHighest : Type 0 where
  pub accepted_1 : verdict (itself_words 1) (1 ∷ []) ≡ accepted
  pub accepted_2 : verdict (itself_words 2) (2 ∷ []) ≡ accepted
  pub alpha_equivalent : AlphaEquivalent (itself 1) (itself 2)
  pub highest_differ : highest_number (itself 1) ≡ highest_number (itself 2) → ⊥
  pub nodes_differ : written_nodes (itself 1) ≡ written_nodes (itself 2) → ⊥

-- (exists x: x) and (exists 2: 2), the second block's range beginning at this entry
abbrev pub both_words : ℕ → ℕ → List ℕ
both_words x first =
    2 ∷ x ∷ 0 ∷ 0 ∷
    5 ∷ 0 ∷ 1 ∷ 0 ∷
    2 ∷ 2 ∷ 0 ∷ 0 ∷
    5 ∷ first ∷ 1 ∷ 2 ∷
    4 ∷ 8 ∷ 1 ∷ 3 ∷
    []

-- x is 1 and the list 1, 2; or x is 2, and both blocks bind the list's one entry
abbrev pub two_entries : Table
two_entries = table_of (both_words 1 1) (1 ∷ 2 ∷ [])

abbrev pub one_entry : Table
one_entry = table_of (both_words 2 0) (2 ∷ [])

-- These meet all that is asked, and are different tables. The theorem `both_packings` (proofs/Examples.antt).
pub record BothPackings : Type 0 where
  pub accepted_two : verdict (both_words 1 1) (1 ∷ 2 ∷ []) ≡ accepted
  pub accepted_one : verdict (both_words 2 0) (2 ∷ []) ≡ accepted
  pub interchangeable : Interchangeable two_entries one_entry
  pub words_differ : both_words 1 1 ≡ both_words 2 0 → ⊥
