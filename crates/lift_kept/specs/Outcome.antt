-- What lifting with the prefix kept answers and leaves in the lent buffers.
-- Assumes nothing.
use Rattle.std.specs.Prelude.{List, ℕ}
use Rattle.formula.specs.Words.{table_of}
use Rattle.refusals.specs.Outcome.{Outcome}
use Rattle.acceptance.specs.Verdict.{verdict}
use Rattle.prenex_form.specs.declared.Sizes.{Sizes}
use Rattle.prenex_form.specs.Sizes.{sizes}
use Rattle.prenex.specs.Outcome.{FormBuffers, buffers, written_form}
use Rattle.kept_prefix.specs.declared.Prefix.{Prefix}
use Rattle.kept_prefix.specs.declared.Prefix.TheVariants.{Lifted, Kept}
use Rattle.kept_prefix.specs.Kept.{kept_nodes, kept_prefix, kept_variables, kept_sizes}
use Rattle.lift_kept.specs.FormOutcome.{form_outcome}

-- The form that keeps a table's leading blocks.
abbrev pub kept_form : List ℕ → List ℕ → FormBuffers
kept_form ws ls = buffers (kept_nodes ws ls) (kept_prefix ws ls) (kept_variables ws ls)

-- Refusals 1 to 8 and 16, then 9, as lifting gives them; else this form, and its sizes.
unfoldable pub lifted_kept : List ℕ → List ℕ → FormBuffers → Outcome Sizes FormBuffers
lifted_kept ws ls before = form_outcome (verdict ws ls) (kept_form ws ls) (kept_sizes ws ls) before

-- The same by what becomes of the leading blocks: the form, its sizes, and the outcome.
unfoldable pub form_as : Prefix → List ℕ → List ℕ → FormBuffers
form_as Lifted ws ls = written_form (table_of ws ls)
form_as Kept ws ls = kept_form ws ls

unfoldable pub sizes_as : Prefix → List ℕ → List ℕ → Sizes
sizes_as Lifted ws ls = sizes (table_of ws ls)
sizes_as Kept ws ls = kept_sizes ws ls

unfoldable pub outcome_as : Prefix → List ℕ → List ℕ → FormBuffers → Outcome Sizes FormBuffers
outcome_as way ws ls before = form_outcome (verdict ws ls) (form_as way ws ls) (sizes_as way ws ls) before
