-- What writing a form as a text answers and leaves in the lent buffer (requests S-5 and S-7), whatever the text.
-- Assumes nothing.
use Rattle.std.specs.Prelude.{List, ◌≡◌, ℕ, ◌<◌, ltb, length, take}
use Rattle.lists.specs.Parts.{overwrite}
use Rattle.refusals.specs.Verdict.{refusal}
use Rattle.refusals.specs.declared.Verdict.{Verdict}
use Rattle.refusals.specs.Outcome.{AnswerWith, Outcome, done, unless_refused, unless_short}
use Rattle.form_texts.specs.declared.Answer.{Answer}

-- "Refused: 14 ..; 15 ..; 9, in that order." The sizes of an answer are the bytes written, "all sizes .. are 0" on refusal, and "no buffer
-- has changed". If done, the text stands at the buffer's start; what follows keeps its content.
unfoldable pub text_outcome : Verdict → List ℕ → List ℕ → Outcome ℕ (List ℕ)
text_outcome verdict text before =
    unless_refused verdict 0 before
    (unless_short (ltb (length before) (length text)) 0 before
    (record { answer = done (length text); buffers = overwrite before 0 text }))

-- The answer, and with it what the buffer holds.
unfoldable pub answer_of : Answer → AnswerWith ℕ
answer_of a = record { verdict = refusal a.number a.position; sizes = a.bytes }

abbrev pub after : Answer → List ℕ → Outcome ℕ (List ℕ)
after a held = record { answer = answer_of a; buffers = held }

-- If done, what is owed of a text is owed of the bytes at the buffer's start, as far as the answer says.
unfoldable pub Written : (List ℕ → Type 0) → Outcome ℕ (List ℕ) → Type 0
Written Owed o = o.answer.verdict.number ≡ 0 → Owed (take o.answer.sizes o.buffers)

-- A buffer with so much room is never too short.
unfoldable pub Suffices : ℕ → List ℕ → Outcome ℕ (List ℕ) → Type 0
Suffices room before o = o.answer.verdict.number ≡ 9 → length before < room
