-- What a call answers and leaves in the lent buffers (document 01, "When the lifter says no"), whatever its sizes and its buffers
-- are.
-- Assumes nothing.
use Rattle.std.specs.Prelude.{Bool, eqb}
use Rattle.lists.specs.Choice.{pick}
use Rattle.refusals.specs.Verdict.{refusal, accepted}
use Rattle.refusals.specs.declared.Verdict.{Verdict}

-- "An answer holds the number (0 is done), the place (0 if done) and the sizes."
pub record AnswerWith (Sizes : Type 0) : Type 0 where
  pub verdict : Verdict
  pub sizes : Sizes

-- An answer, and what the buffers hold with it.
pub record Outcome (Sizes Buffers : Type 0) : Type 0 where
  pub answer : AnswerWith Sizes
  pub buffers : Buffers

module _ {Sizes : Type 0} where
  -- "On refusal all sizes .. are 0." `none` are the sizes that are all 0.
  unfoldable pub refused : Verdict → Sizes → AnswerWith Sizes
  refused v none = record { verdict = v; sizes = none }

  unfoldable pub done : Sizes → AnswerWith Sizes
  done sizes = record { verdict = accepted; sizes = sizes }

  -- The verdict handed on where it refuses; else what comes next.
  unfoldable pub answer_unless_refused : Verdict → Sizes → AnswerWith Sizes → AnswerWith Sizes
  answer_unless_refused v none next = pick (eqb v.number 0) next (refused v none)

  module _ {Buffers : Type 0} where
    -- The same of a call that writes: "no buffer has changed".
    unfoldable pub unless_refused : Verdict → Sizes → Buffers → Outcome Sizes Buffers → Outcome Sizes Buffers
    unless_refused v none before next = pick (eqb v.number 0) next (record { answer = refused v none; buffers = before })

    -- Refusal 9, BufferTooShort (document 01: no room): "an output buffer shorter than the size needed".
    unfoldable pub unless_short : Bool → Sizes → Buffers → Outcome Sizes Buffers → Outcome Sizes Buffers
    unless_short short none before next = unless_refused (pick short (refusal 9 0) accepted) none before next
