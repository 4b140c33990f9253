-- What is answered of a text holds a number and a position, and no users.
-- Assumes nothing.
use mathlib.Core.List.{List}
use Prim.Native.Nat.{ℕ}
use Rattle.refusals.specs.Verdict.{Plain}
use Rattle.refusals.specs.Outcome.{AnswerWith, Outcome, refused, done}
use Rattle.refusals.proofs.Plain.{plain_refusal, plain_accepted, plain_pick, plain_call, plain_room}
use Rattle.prenex_form.specs.declared.Sizes.{Sizes}
use Rattle.prenex.specs.Outcome.{no_sizes}
use Rattle.qcir.specs.Table.{table_words, table_list}
use Rattle.qcir.specs.FromText.{limits, refused_text, FromText}
use Rattle.qcir.proofs.Answers.{from_text}
use Rattle.form_writer.specs.declared.Format.{Format}
use Rattle.text_answers.specs.Answers.{TextSizes, no_text_sizes}
use Rattle.lift_text.specs.Lifting.{written_as, Lifting}
use Rattle.lift_text.specs.Memory.{Lent, written_in, LiftingIn}
use Rattle.lift_text.specs.Measuring.{alone, measured_table, Measuring}

-- What comes of a text is plain if what comes of a table is.
plain_text : {Sizes Buffers : Type 0} (none : Sizes) (before : Buffers) (next : List ℕ → List ℕ → Outcome Sizes Buffers)
    → ((ws ls : List ℕ) → Plain (next ws ls).answer.verdict)
    → (text : List ℕ) (o : Outcome Sizes Buffers) → FromText limits none before next text o → Plain o.answer.verdict
unfolding refused_text refused
plain_text {Sizes} {Buffers} none before next plain text o h =
    from_text limits none before next text (λ (q : Outcome Sizes Buffers). Plain q.answer.verdict)
    (λ number position m. plain_refusal number position) (λ f s n z. plain (table_words f) (table_list f)) o h

module _ (format : Format) where
  written_plain : (before ws ls : List ℕ) → Plain (written_as format before ws ls).answer.verdict
  unfolding written_as done
  written_plain before ws ls = plain_room no_text_sizes before _ plain_accepted _

  pub lifting_plain : (text before : List ℕ) (o : Outcome TextSizes (List ℕ)) → Lifting format text before o → Plain o.answer.verdict
  lifting_plain text before = plain_text no_text_sizes before (written_as format before) (written_plain before) text

  pub lifting_in_plain : (text : List ℕ) (before : Lent) (o : Outcome TextSizes Lent) → LiftingIn format text before o → Plain o.answer.verdict
  unfolding written_in
  lifting_in_plain text before =
      plain_text no_text_sizes before (written_in format before)
      (λ ws ls. plain_call no_text_sizes before _ (written_plain before.out ws ls) _ (plain_pick _ _ _ (plain_refusal 24 0) plain_accepted)) text

pub measuring_plain : (text : List ℕ) (a : AnswerWith Sizes) → Measuring text a → Plain a.verdict
unfolding measured_table done
measuring_plain text a = plain_text no_sizes tt measured_table (λ ws ls. plain_accepted) text (alone a)
