-- Which way a call goes, by its verdict and the room in its buffers.
-- Assumes nothing.
use mathlib.Core.Path.{◌≡◌, refl, sym, ◌∙◌, ap}
use mathlib.Core.Bool.{Bool, true, false}
use native.Mathlib.Omega.{arith}
use lib.Dec.{eqb}
use borrow.Author.Tests.{eqb-true, eqb-false, eq-eqb, ne_eqb}
use Rattle.lists.specs.Choice.{pick, pick_yes, pick_no, Is, is_true, is_false, look}
use Rattle.refusals.specs.Verdict.{refusal, accepted}
use Rattle.refusals.specs.Outcome.{AnswerWith, Outcome, refused, answer_unless_refused, unless_refused, unless_short}
use Rattle.refusals.specs.declared.Verdict.{Verdict}

module _ {Sizes : Type 0} (v : Verdict) (none : Sizes) (next : AnswerWith Sizes) where
  pub answer_next : v.number ≡ 0 → answer_unless_refused v none next ≡ next
  unfolding answer_unless_refused
  answer_next e = pick_yes _ _ _ (eq-eqb _ _ e)

  pub answer_refused : (v.number ≡ 0 → ⊥) → answer_unless_refused v none next ≡ refused v none
  unfolding answer_unless_refused
  answer_refused n = pick_no _ _ _ (ne_eqb _ _ n)

module _ {Sizes Buffers : Type 0} (none : Sizes) (before : Buffers) (next : Outcome Sizes Buffers) where
  pub call_next : (v : Verdict) → v.number ≡ 0 → unless_refused v none before next ≡ next
  unfolding unless_refused
  call_next v e = pick_yes _ _ _ (eq-eqb _ _ e)

  pub call_refused : (v : Verdict) → (v.number ≡ 0 → ⊥) → unless_refused v none before next ≡ record { answer = refused v none; buffers = before }
  unfolding unless_refused
  call_refused v n = pick_no _ _ _ (ne_eqb _ _ n)

  pub call_room : (short : Bool) → short ≡ false → unless_short short none before next ≡ next
  unfolding unless_short accepted pick
  call_room short e = rw e (call_next accepted refl)

  pub call_short : (short : Bool) → short ≡ true → unless_short short none before next ≡ record { answer = refused (refusal 9 0) none; buffers = before }
  unfolding unless_short refusal pick
  call_short short e = rw e (call_refused (refusal 9 0) (λ z. omega arith))

  -- A call that is done met no refusal on its way.
  pub call_passed : (v : Verdict) → (unless_refused v none before next).answer.verdict.number ≡ 0 → v.number ≡ 0
  unfolding refused
  call_passed v h = go (look (eqb v.number 0))
    where
      go : Is (eqb v.number 0) → v.number ≡ 0
      go (is_true t) = eqb-true _ _ t
      go (is_false t) = sym (ap (λ (o : Outcome Sizes Buffers). o.answer.verdict.number) (call_refused v (eqb-false _ _ t))) ∙ h

  pub call_fits : (short : Bool) → (unless_short short none before next).answer.verdict.number ≡ 0 → short ≡ false
  unfolding unless_short pick refusal
  call_fits true h = absurd (omega (arith, call_passed (refusal 9 0) h))
  call_fits false h = refl
