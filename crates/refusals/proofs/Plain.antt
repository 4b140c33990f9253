-- Verdicts of a number and a position alone.
-- Assumes nothing.
use mathlib.Core.Path.{refl}
use mathlib.Core.Bool.{Bool, true, false}
use Prim.Native.Nat.{ℕ}
use lib.Dec.{eqb}
use Rattle.lists.specs.Choice.{pick}
use Rattle.refusals.specs.Verdict.{refusal, accepted, Plain}
use Rattle.refusals.specs.Outcome.{Outcome, refused, unless_refused, unless_short}
use Rattle.refusals.specs.declared.Verdict.{Verdict}

pub plain_refusal : (number position : ℕ) → Plain (refusal number position)
unfolding refusal
plain_refusal number position = refl

pub plain_accepted : Plain accepted
unfolding refusal accepted
plain_accepted = refl

pub plain_pick : (t : Bool) (a b : Verdict) → Plain a → Plain b → Plain (pick t a b)
unfolding pick
plain_pick true a b p q = p
plain_pick false a b p q = q

-- A call's verdict is plain if the one handed on is, and the one that comes next.
module _ {Sizes Buffers : Type 0} (none : Sizes) (before : Buffers) (next : Outcome Sizes Buffers) (rest : Plain next.answer.verdict) where
  chosen : (t : Bool) (v : Verdict) → Plain v
      → Plain (pick t next (record { answer = refused v none; buffers = before })).answer.verdict
  unfolding pick refused
  chosen true v p = rest
  chosen false v p = p

  pub plain_call : (v : Verdict) → Plain v → Plain (unless_refused v none before next).answer.verdict
  unfolding unless_refused
  plain_call v p = chosen (eqb v.number 0) v p

  pub plain_room : (short : Bool) → Plain (unless_short short none before next).answer.verdict
  unfolding unless_short
  plain_room short = plain_call _ (plain_pick short (refusal 9 0) accepted (plain_refusal 9 0) plain_accepted)
