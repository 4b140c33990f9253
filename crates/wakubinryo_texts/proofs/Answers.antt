-- From the outcome of a call to the one that C's words say.
-- Assumes nothing.
use mathlib.Core.Path.{◌≡◌, sym, ◌∙◌, ap, subst}
use Prim.Native.Nat.{ℕ}
use Rattle.refusals.specs.Verdict.{refusal, Plain}
use Rattle.refusals.specs.Outcome.{AnswerWith, Outcome, refused}
use Rattle.refusals.proofs.Plain.{plain_refusal}
use Rattle.qcir.specs.FromText.{refused_text}
use Rattle.text_answers.specs.declared.Answer.{Answer}
use Rattle.form_writer.specs.declared.Format.{Format}
use Rattle.text_answers.specs.Answers.{TextSizes, no_text_sizes, answer_of}
use Rattle.std.specs.Prelude.{Option, None, Some}
use Rattle.text_answers.specs.Formats.{Numbers, InFormat, known, unknown}

-- The verdict of an unknown format has no users.
pub unknown_plain : (r : Answer) → answer_of r ≡ record { verdict = refusal 23 0; sizes = no_text_sizes } → Plain r.verdict
unknown_plain r e = subst Plain (sym (ap (λ (a : AnswerWith TextSizes). a.verdict) e)) (plain_refusal 23 0)

module _ {Buffers : Type 0} (number : ℕ) (asked : Option Format) (n : Numbers number asked) (held : Buffers) (r : Answer) (a : AnswerWith TextSizes) (said : a ≡ answer_of r) where
  -- What is promised of a call in a format is promised of what C's words say.
  pub in_format : (format : Format) → asked ≡ Some format → (Promised : Format → Outcome TextSizes Buffers → Type 0) (Refuses : Type 0)
      → Promised format (record { answer = answer_of r; buffers = held })
      → InFormat number (λ f. Promised f (record { answer = a; buffers = held })) Refuses
  unfolding Numbers
  in_format format e Promised Refuses p =
      known format (subst (Numbers number) e n) (subst (λ (b : AnswerWith TextSizes). Promised format (record { answer = b; buffers = held })) (sym said) p)

  pub in_none : asked ≡ None → (Lifts : Format → Type 0) → answer_of r ≡ record { verdict = refusal 23 0; sizes = no_text_sizes }
      → InFormat number Lifts (record { answer = a; buffers = held } ≡ refused_text no_text_sizes held (refusal 23 0))
  unfolding Numbers refused_text refused
  in_none e Lifts refuses =
      unknown (subst (Numbers number) e n) (ap (λ (b : AnswerWith TextSizes). record { answer = b; buffers = held }) (said ∙ refuses))
