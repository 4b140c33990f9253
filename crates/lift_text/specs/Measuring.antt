-- What measuring a text answers: reading (request S-1), then the sizes of its table (document 01).
-- Assumes nothing.
use Rattle.std.specs.Prelude.{true, List, [], ◌∷◌, ◌≡◌, ℕ}
use Rattle.lists.specs.Members.{mem}
use Rattle.formula.specs.Words.{table_of}
use Rattle.refusals.specs.Outcome.{AnswerWith, Outcome, done}
use Rattle.prenex_form.specs.declared.Sizes.{Sizes}
use Rattle.prenex_form.specs.Sizes.{sizes}
use Rattle.prenex.specs.Outcome.{no_sizes}
use Rattle.qcir.specs.FromText.{limits, FromText, OnlyFromText}
use Rattle.form_writer.specs.declared.Format.{Format}
use Rattle.text_answers.specs.Answers.{TextSizes}
use Rattle.lift_text.specs.Lifting.{Lifting}

-- An answer of a call that has no buffers.
abbrev pub alone : AnswerWith Sizes → Outcome Sizes (Unit {0})
alone a = record { answer = a; buffers = tt }

-- What comes of a table that was read.
unfoldable pub measured_table : List ℕ → List ℕ → Outcome Sizes (Unit {0})
measured_table ws ls = alone (done (sizes (table_of ws ls)))

-- What comes of a text.
abbrev pub Measuring : List ℕ → AnswerWith Sizes → Type 0
Measuring text a = FromText limits no_sizes tt measured_table text (alone a)

-- What is promised of measuring a text.
pub record MeasuresText (text : List ℕ) (a : AnswerWith Sizes) : Type 0 where
  -- the answer is the one that comes of the text, and no other is right
  pub outcome : Measuring text a
  pub only : OnlyFromText limits no_sizes tt measured_table text (alone a)
  -- the sizes are those that lifting the text answers, in whatever format and buffer it is done
  pub as_lifted : (format : Format) (before : List ℕ) (o : Outcome TextSizes (List ℕ)) → Lifting format text before o → o.answer.verdict.number ≡ 0
      → o.answer.sizes.table ≡ a.sizes
  -- the numbers that can come: "Measuring never gives 9"
  pub numbers : mem a.verdict.number (0 ∷ 2 ∷ 6 ∷ 10 ∷ 11 ∷ 12 ∷ 13 ∷ []) ≡ true
