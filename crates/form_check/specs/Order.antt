-- The order of refusals 14 and 15 by its property: what holds of a verdict is that its refusal applies, at the first block, and that none
-- before it does. That `form_verdict_within` is this verdict is the law `form_order` (proofs/Order.antt).
-- Assumes nothing.
use Rattle.std.specs.Prelude.{true, false, List, [], ◌≡◌, ℕ, ◌/◌, ◌%◌, ◌<◌, length}
use Rattle.formula.specs.Form.{prefix_width}
use Rattle.refusals.specs.Verdict.{refusal, accepted}
use Rattle.refusals.specs.declared.Verdict.{Verdict}
use Rattle.acceptance.specs.Limits.{TableLimits}
use Rattle.acceptance.specs.Verdict.{verdict_within}
use Rattle.form_check.specs.Verdict.{bad_block}

-- The nodes pass the table checker's tests, and the prefix is whole blocks.
pub record WholeForm (lim : TableLimits) (ns ps : List ℕ) : Type 0 where
  pub matrix : verdict_within lim ns [] ≡ accepted
  pub whole : length ps % prefix_width ≡ 0

-- "Refused: 14 ..; 15 ..": the first that applies.
pub data FirstOfForm (lim : TableLimits) (ns ps xs : List ℕ) : Verdict → Type 0 where
  matrix : (verdict_within lim ns [] ≡ accepted → ⊥) → FirstOfForm lim ns ps xs (refusal 14 (verdict_within lim ns []).position)
  ragged : verdict_within lim ns [] ≡ accepted → (length ps % prefix_width ≡ 0 → ⊥) → FirstOfForm lim ns ps xs (refusal 15 0)
  bad : WholeForm lim ns ps → (j : ℕ) → j < length ps / prefix_width → bad_block lim ps xs j ≡ true
      → ((k : ℕ) → k < j → bad_block lim ps xs k ≡ false) → FirstOfForm lim ns ps xs (refusal 15 j)
  none : WholeForm lim ns ps → ((k : ℕ) → k < length ps / prefix_width → bad_block lim ps xs k ≡ false)
      → FirstOfForm lim ns ps xs accepted
