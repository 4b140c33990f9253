-- Which way writing goes, by the form's verdict and the room, and what is owed of each outcome.
-- Assumes nothing.
use mathlib.Core.Path.{◌≡◌, refl, sym, ◌∙◌, ap, subst}
use mathlib.Core.List.{List, ◌++◌}
use Prim.Native.Nat.{ℕ, ◌<◌, ◌≤◌}
use native.Mathlib.Omega.{arith}
use lib.Dec.{eqb, ltb}
use lib.ListN.{length, take}
use borrow.Author.Tests.{eqb-true, eqb-false, ltb-true, ltb-false}
use Rattle.lists.specs.Choice.{Is, is_true, is_false, look}
use Rattle.lists.proofs.Overwrite.{start_of}
use Rattle.refusals.specs.Verdict.{refusal, accepted}
use Rattle.refusals.specs.Outcome.{AnswerWith, Outcome, done, refused}
use Rattle.refusals.specs.declared.Verdict.{Verdict}
use Rattle.refusals.proofs.Outcome.{call_refused, call_room, call_short}
use Rattle.form_check.specs.Verdict.{form_verdict}
use Rattle.form_check.specs.Accepted.{AcceptedForm}
use Rattle.form_check.specs.Answer.{refusal_of}
use Rattle.form_check.specs.declared.Malformed.{Malformed}
use Rattle.form_check.specs.declared.Malformed.TheVariants.{Matrix, Prefix}
use Rattle.form_check.specs.Order.{FirstOfForm, matrix, ragged, bad, none}
use Rattle.form_check.proofs.Order.{form_order}
use Rattle.acceptance.specs.Limits.{TableLimits}
use Rattle.form_check.proofs.Accepted.{form_holds, holds_form, number_zero}
use Rattle.texts.specs.Put.{Put}
use Rattle.form_texts.specs.declared.Answer.{Answer}
use Rattle.form_texts.specs.Writing.{text_outcome, answer_of, after, Written, Suffices}
use Rattle.form_texts.proofs.Texts.{written, roomy, text_accepted, counted_short, counted_done}

-- No form is refused by 9.
not_nine : (lim : TableLimits) (ns ps xs : List ℕ) (v : Verdict) → FirstOfForm lim ns ps xs v → v.number ≡ 9 → ⊥
unfolding refusal accepted
not_nine lim ns ps xs _ (matrix f) z = omega (arith, z)
not_nine lim ns ps xs _ (ragged e f) z = omega (arith, z)
not_nine lim ns ps xs _ (bad w j l b k) z = omega (arith, z)
not_nine lim ns ps xs _ (none w k) z = omega (arith, z)

-- Every fault has a refusal's number.
not_zero : (fault : Malformed) → (refusal_of fault).number ≡ 0 → ⊥
unfolding refusal
not_zero (Matrix i) z = omega (arith, z)
not_zero (Prefix j) z = omega (arith, z)

module _ (ns ps xs text before : List ℕ) where
  outcome : Outcome ℕ (List ℕ)
  outcome = text_outcome (form_verdict ns ps xs) text before

  -- a refusal leaves the buffer as it is
  held : AnswerWith ℕ → Outcome ℕ (List ℕ)
  held a = record { answer = a; buffers = before }

  pub is_refused : (fault : Malformed) → refusal_of fault ≡ form_verdict ns ps xs → (r : Answer) → answer_of r ≡ refused (refusal_of fault) 0
      → after r before ≡ text_outcome (form_verdict ns ps xs) text before
  unfolding held text_outcome written roomy
  is_refused fault e r a =
      ap held (a ∙ ap (λ (v : Verdict). refused v 0) e)
      ∙ sym (call_refused 0 before (roomy text before) (form_verdict ns ps xs) (λ z. not_zero fault (ap (λ (v : Verdict). v.number) e ∙ z)))

  pub lines_short : (part lent : List ℕ) (n : ℕ) → AcceptedForm ns ps xs → Put lent 0 text part n → length lent ≡ 0 → length before < n
      → after (record { number = 9; position = 0; bytes = 0 }) (part ++ before) ≡ text_outcome (form_verdict ns ps xs) text before
  lines_short part lent n a put e h =
      counted_short text before (form_verdict ns ps xs) part lent n (holds_form _ ns ps xs a) put e h

  pub lines_done : (part lent last : List ℕ) (n m : ℕ) → AcceptedForm ns ps xs → Put lent 0 text part n → length lent ≡ 0
      → n ≤ length before → Put (part ++ before) 0 text last m
      → after (record { number = 0; position = 0; bytes = n }) last ≡ text_outcome (form_verdict ns ps xs) text before
  lines_done part lent last n m a put e h over =
      counted_done text before (form_verdict ns ps xs) part lent last n m (holds_form _ ns ps xs a) put e h over

  -- What is owed of the outcome.
  data Way : Type 0 where
    refused_way : ((form_verdict ns ps xs).number ≡ 0 → ⊥) → outcome ≡ record { answer = refused (form_verdict ns ps xs) 0; buffers = before } → Way
    short_way : form_verdict ns ps xs ≡ accepted → length before < length text
        → outcome ≡ record { answer = refused (refusal 9 0) 0; buffers = before } → Way
    done_way : form_verdict ns ps xs ≡ accepted → length text ≤ length before → outcome ≡ written text before → Way

  way : Way
  unfolding outcome text_outcome written roomy
  way = go (look (eqb (form_verdict ns ps xs).number 0)) (look (ltb (length before) (length text)))
    where
      go : Is (eqb (form_verdict ns ps xs).number 0) → Is (ltb (length before) (length text)) → Way
      go (is_false n) s = refused_way (eqb-false _ _ n) (call_refused 0 before (roomy text before) (form_verdict ns ps xs) (eqb-false _ _ n))
      go (is_true z) (is_true s) =
          let e = number_zero _ ns ps xs (eqb-true _ _ z) in
          short_way e (ltb-true _ _ s) (text_accepted text before _ e ∙ call_short 0 before (written text before) _ s)
      go (is_true z) (is_false s) =
          let e = number_zero _ ns ps xs (eqb-true _ _ z) in
          done_way e (ltb-false _ _ s) (text_accepted text before _ e ∙ call_room 0 before (written text before) _ s)

  number : Outcome ℕ (List ℕ) → ℕ
  number o = o.answer.verdict.number

  module _ (Owed : List ℕ → Type 0) (owed : form_verdict ns ps xs ≡ accepted → Owed text)
      (room : ℕ) (enough : AcceptedForm ns ps xs → length text ≤ room) where
    outcome_written : Written Owed outcome
    unfolding Written refused refusal done written number
    outcome_written = go way
      where
        go : Way → number outcome ≡ 0 → Owed (take outcome.answer.sizes outcome.buffers)
        go (refused_way n e) z = absurd (n (sym (ap number e) ∙ z))
        go (short_way a h e) z = absurd (omega (arith, sym (ap number e) ∙ z))
        go (done_way a h e) z =
            subst (λ (o : Outcome ℕ (List ℕ)). Owed (take o.answer.sizes o.buffers)) (sym e)
            (subst Owed (sym (start_of before text _ refl)) (owed a))

    outcome_room : Suffices room before outcome
    unfolding Suffices refused refusal done accepted written number
    outcome_room = go way
      where
        go : Way → number outcome ≡ 9 → length before < room
        go (refused_way n e) z = absurd (not_nine _ ns ps xs _ (form_order _ ns ps xs) (sym (ap number e) ∙ z))
        go (short_way a h e) z = let r = enough (form_holds _ ns ps xs a) in omega (arith, h, r)
        go (done_way a h e) z = absurd (omega (arith, sym (ap number e) ∙ z))

    -- An outcome that is the defined one keeps what is promised.
    pub promised : (o : Outcome ℕ (List ℕ)) → o ≡ text_outcome (form_verdict ns ps xs) text before
        → (o ≡ text_outcome (form_verdict ns ps xs) text before) × (Written Owed o × Suffices room before o)
    unfolding outcome
    promised o e = (e, (subst (Written Owed) (sym e) outcome_written, subst (Suffices room before) (sym e) outcome_room))
