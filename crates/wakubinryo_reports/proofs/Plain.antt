-- The totals' verdict is a number and a position alone.
-- Assumes nothing.
use mathlib.Core.Bool.{Bool, true, false}
use mathlib.Core.List.{List}
use Prim.Native.Nat.{ℕ}
use Rattle.lists.specs.Choice.{pick}
use Rattle.refusals.specs.Verdict.{Plain}
use Rattle.refusals.specs.declared.Verdict.{Verdict}
use Rattle.refusals.specs.Outcome.{AnswerWith, done, refused, answer_unless_refused}
use Rattle.refusals.proofs.Plain.{plain_refusal, plain_accepted, plain_pick}
use Rattle.growth.specs.Totals.{lines_verdict, totalled}

-- an answer's verdict is plain if the one handed on is, and the one that comes next
chosen : {Sizes : Type 0} (t : Bool) (v : Verdict) (none : Sizes) (next : AnswerWith Sizes) → Plain v → Plain next.verdict
    → Plain (pick t next (refused v none)).verdict
unfolding pick refused
chosen true v none next p rest = rest
chosen false v none next p rest = p

pub totals_plain : (ws : List ℕ) → Plain (totalled ws).verdict
unfolding totalled answer_unless_refused lines_verdict done
totals_plain ws =
    chosen _ _ _ _ (plain_pick _ _ _ (plain_pick _ _ _ (plain_refusal 20 0) plain_accepted) (plain_refusal 1 0)) plain_accepted
