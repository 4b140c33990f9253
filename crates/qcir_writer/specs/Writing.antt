-- What writing a form as a QCIR text answers and leaves in the lent buffer (request S-5).
-- Assumes nothing.
use Rattle.std.specs.Prelude.{List, ℕ, ◌/◌, length}
use Rattle.formula.specs.Words.{node_count}
use Rattle.formula.specs.Form.{prefix_width}
use Rattle.refusals.specs.Outcome.{Outcome}
use Rattle.form_check.specs.Verdict.{form_verdict}
use Rattle.form_texts.specs.Writing.{text_outcome, Written, Suffices}
use Rattle.qcir_form.specs.File.{form_text}
use Rattle.qcir_form.specs.Laws.{room_for}
use Rattle.qcir_form.specs.Promise.{TextOf}

unfoldable pub write_outcome : List ℕ → List ℕ → List ℕ → List ℕ → Outcome ℕ (List ℕ)
write_outcome ns ps xs before = text_outcome (form_verdict ns ps xs) (form_text ns ps xs) before

-- If done, what is owed of a form's text is owed of the bytes at the buffer's start.
unfoldable pub TextWritten : List ℕ → List ℕ → List ℕ → Outcome ℕ (List ℕ) → Type 0
TextWritten ns ps xs o = Written (TextOf ns ps xs) o

-- A buffer with the promised room is never too short.
unfoldable pub RoomSuffices : List ℕ → List ℕ → List ℕ → List ℕ → Outcome ℕ (List ℕ) → Type 0
RoomSuffices ns ps xs before o = Suffices (room_for (node_count ns) (length ps / prefix_width) (length xs)) before o
