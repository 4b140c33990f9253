-- What writing a form as a QDIMACS text answers and leaves in the lent buffer (request S-7), and what is found of the form before.
-- Assumes nothing.
use Rattle.std.specs.Prelude.{List, [], ◌≡◌, ℕ, ◌/◌, ◌≤◌, length}
use Rattle.formula.specs.Words.{node_count, table_of}
use Rattle.formula.specs.Form.{prefix_width, blocks_of, form_free}
use Rattle.refusals.specs.Outcome.{Outcome}
use Rattle.form_check.specs.Verdict.{form_verdict}
use Rattle.form_check.specs.Accepted.{AcceptedForm}
use Rattle.form_texts.specs.Writing.{text_outcome, Written, Suffices}
use Rattle.name_flags.specs.Flags.{FreeFlags}
use Rattle.qdimacs_form.specs.Clauses.{first_gate, clauses_text}
use Rattle.qdimacs_form.specs.Laws.{room_for}
use Rattle.qdimacs_form.specs.Promise.{ClausesOf}
use Rattle.qdimacs_numbers.specs.Numbering.{NumberedBelow}
use Rattle.qdimacs_writer.specs.declared.Outline.{Outline}

-- "Refused: 14, 15, 9."
unfoldable pub write_outcome : List ℕ → List ℕ → List ℕ → List ℕ → Outcome ℕ (List ℕ)
write_outcome ns ps xs before = text_outcome (form_verdict ns ps xs) (clauses_text ns ps xs) before

-- If done, what is owed of a form's text is owed of the bytes at the buffer's start.
unfoldable pub ClausesWritten : List ℕ → List ℕ → List ℕ → Outcome ℕ (List ℕ) → Type 0
ClausesWritten ns ps xs o = Written (ClausesOf ns ps xs) o

-- A buffer with the promised room is never too short.
unfoldable pub RoomSuffices : List ℕ → List ℕ → List ℕ → List ℕ → Outcome ℕ (List ℕ) → Type 0
RoomSuffices ns ps xs before o = Suffices (room_for (node_count ns) (length ps / prefix_width) (length xs)) before o

-- What is known of an accepted form before its text is put: the free names by their flags, the words of the nodes' variables, and these numbers.
pub record Outlined (ns ps xs names words : List ℕ) (o : Outline) : Type 0 where
  pub form : AcceptedForm ns ps xs
  pub free : FreeFlags (form_free ns ps xs) names o.highest
  pub first_is : o.first ≡ first_gate (table_of ns []) (blocks_of ps xs)
  pub low : o.first ≤ 77824
  pub numbered : NumberedBelow (table_of ns []) o.first (node_count ns) words (record { next = o.next; clauses = o.clauses })
  pub few : o.clauses ≤ 163841
  pub wide : length words ≡ 40960
