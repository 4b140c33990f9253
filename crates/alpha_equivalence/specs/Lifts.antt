-- What lifting writes for two tables that differ in the numbers of bound variables alone (request S-12).
-- Assumes nothing.
use Rattle.std.specs.Prelude.{List, ◌≡◌, ℕ, length}
use Rattle.formula.specs.Node.{Table}
use Rattle.formula.specs.Words.{table_of}
use Rattle.formula.specs.Valuation.{Valuation}
use Rattle.formula.specs.Truth.{truth}
use Rattle.formula.specs.FreeVariables.{free_variables}
use Rattle.refusals.specs.Verdict.{accepted}
use Rattle.acceptance.specs.Verdict.{verdict}
use Rattle.prenex.specs.Outcome.{measured, FormBuffers, written_form, lifted, form_left}
use Rattle.file_to_file.specs.FileToFile.{lifted_text}
use Rattle.file_to_file.specs.FileToClauses.{lifted_clauses}
use Rattle.alpha_equivalence.specs.AlphaEquivalence.{Interchangeable}

-- Buffers of the same lengths, whatever they hold.
pub record SameLengths (before before' : FormBuffers) : Type 0 where
  pub nodes : length before.nodes ≡ length before'.nodes
  pub prefix : length before.prefix ≡ length before'.prefix
  pub variables : length before.variables ≡ length before'.variables

-- Two tables with the same truth value under every valuation and the same free variables.
pub record SameMeaning (t u : Table) : Type 0 where
  pub same_truth : (v : Valuation) → truth t v ≡ truth u v
  pub same_free : free_variables t ≡ free_variables u

pub record LiftedAlike (ws ls ws' ls' : List ℕ) : Type 0 where
  -- "Then two lifts that are done write the same words in nodes, prefix and list", whatever the buffers held.
  pub same_words : (before before' : FormBuffers)
      → (lifted ws ls before).answer.verdict.number ≡ 0
      → (lifted ws' ls' before').answer.verdict.number ≡ 0
      → form_left (lifted ws ls before) ≡ form_left (lifted ws' ls' before')
  -- In buffers of the same lengths the answers are the same: one lift is done if the other is.
  pub same_answers : (before before' : FormBuffers) → SameLengths before before'
      → (lifted ws ls before).answer ≡ (lifted ws' ls' before').answer
  -- So are the sizes that measuring gives,
  pub same_sizes : measured ws ls ≡ measured ws' ls'
  -- the QCIR and QDIMACS texts of the forms,
  pub same_text : lifted_text ws ls ≡ lifted_text ws' ls'
  pub same_clauses : lifted_clauses ws ls ≡ lifted_clauses ws' ls'
  -- and what the tables mean.
  pub same_meaning : SameMeaning (table_of ws ls) (table_of ws' ls')

-- The theorem `lifted_alike` (proofs/Theorem.antt).
abbrev pub AlphaEquivalentLifts : Type 0
AlphaEquivalentLifts =
    (ws ls ws' ls' : List ℕ) → verdict ws ls ≡ accepted → verdict ws' ls' ≡ accepted
    → Interchangeable (table_of ws ls) (table_of ws' ls')
    → LiftedAlike ws ls ws' ls'

-- Equal forms come of such tables alone: "With unequal ones this fails", as it does where any other condition fails. The theorem
-- `only_interchangeable` (proofs/Unique.antt).
abbrev pub OnlyInterchangeable : Type 0
OnlyInterchangeable =
    (ws ls ws' ls' : List ℕ) → verdict ws ls ≡ accepted → verdict ws' ls' ≡ accepted
    → written_form (table_of ws ls) ≡ written_form (table_of ws' ls')
    → Interchangeable (table_of ws ls) (table_of ws' ls')
