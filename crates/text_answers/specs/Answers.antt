-- The answers of calls that lift a text.
-- Assumes nothing.
use Rattle.std.specs.Prelude.{ℕ, eqb}
use Rattle.lists.specs.Choice.{pick}
use Rattle.refusals.specs.Verdict.{refusal}
use Rattle.refusals.specs.Outcome.{AnswerWith, refused, done}
use Rattle.prenex_form.specs.declared.Sizes.{Sizes}
use Rattle.prenex.specs.Outcome.{no_sizes}
use Rattle.form_texts.specs.declared.Answer.{Answer as Writing}
use Rattle.text_answers.specs.declared.Answer.{Answer}

-- The sizes of an answer: the bytes written, and what measuring gives of the table that was read.
pub record TextSizes : Type 0 where
  pub bytes : ℕ
  pub table : Sizes

-- "On refusal all sizes .. are 0."
unfoldable pub no_text_sizes : TextSizes
no_text_sizes = record { bytes = 0; table = no_sizes }

abbrev pub answer_of : Answer → AnswerWith TextSizes
answer_of a = record { verdict = a.verdict; sizes = record { bytes = a.bytes; table = a.sizes } }

-- Once the form of a table with these sizes was to be written: it was, or had no room.
unfoldable pub of_writing : Writing → Sizes → AnswerWith TextSizes
of_writing written sizes =
    pick (eqb written.number 0) (done (record { bytes = written.bytes; table = sizes }))
    (refused (refusal 9 0) no_text_sizes)
