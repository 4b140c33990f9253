-- `text_answers::of_writing` meets its contract.
-- Assumes nothing.
use mathlib.Core.Path.{sym, ◌∙◌, ap}
use borrow.Author.Tests.{eq-eqb, ne_eqb}
use Rattle.lists.specs.Choice.{pick_yes, pick_no}
use Rattle.refusals.specs.declared.Verdict.{Verdict}
use Rattle.refusals.specs.Outcome.{AnswerWith, refused, done}
use Rattle.text_answers.specs.Answers.{TextSizes, no_text_sizes, of_writing}
use Rattle.text_answers.proofs.of_writing.Goals as goal

pub returns-then-written-ne-ACCEPTED : goal.returns-then-written-ne-ACCEPTED
unfolding of_writing
returns-then-written-ne-ACCEPTED c =
    c.refused.ensures ∙ ap (λ (v : Verdict). refused v no_text_sizes) c.refusal.ensures
    ∙ sym (pick_no _ _ _ (ne_eqb _ _ c.if-written-ne-ACCEPTED.true))

-- an answer with these sizes
abbrev with : TextSizes → Verdict → AnswerWith TextSizes
with sizes v = record { verdict = v; sizes = sizes }

pub returns : goal.returns
unfolding of_writing done
returns c = ap (with _) c.accepted-verdict.ensures ∙ sym (pick_yes _ _ _ (eq-eqb _ _ c.if-written-ne-ACCEPTED.false))
