-- What lifting a text answers and leaves in the lent buffer: reading (request S-1), lifting (document 01) and writing (requests S-5 and S-7).
-- Assumes nothing.
use Rattle.std.specs.Prelude.{true, List, [], ◌∷◌, ◌≡◌, ℕ, ◌+◌, ◌*◌, ◌<◌, ◌≤◌, ltb, length, take}
use Rattle.lists.specs.Members.{mem}
use Rattle.lists.specs.Parts.{overwrite}
use Rattle.formula.specs.Words.{table_of}
use Rattle.refusals.specs.Outcome.{Outcome, done, unless_short}
use Rattle.prenex_form.specs.Sizes.{sizes}
use Rattle.form_writer.specs.Formats.{room_as}
use Rattle.qcir.specs.FromText.{limits, FromText, OnlyFromText}
use Rattle.form_writer.specs.declared.Format.{Format}
use Rattle.text_answers.specs.declared.Answer.{Answer}
use Rattle.text_answers.specs.Answers.{TextSizes, no_text_sizes, answer_of}
use Rattle.lift_text.specs.Formats.{lifted_as, Owed, most_bytes}

-- An answer, and what the buffer holds with it.
abbrev pub after : Answer → List ℕ → Outcome TextSizes (List ℕ)
after a held = record { answer = answer_of a; buffers = held }

-- The sizes where a table was lifted.
abbrev pub lifted_sizes : Format → List ℕ → List ℕ → TextSizes
lifted_sizes format ws ls = record { bytes = length (lifted_as format ws ls); table = sizes (table_of ws ls) }

-- What comes of a table that was read: 9; or the text of its prenex form at the buffer's start, and what follows keeps its content.
unfoldable pub written_as : Format → List ℕ → List ℕ → List ℕ → Outcome TextSizes (List ℕ)
written_as format before ws ls =
    let lifted = lifted_as format ws ls in
    unless_short (ltb (length before) (length lifted)) no_text_sizes before
    (record { answer = done (lifted_sizes format ws ls); buffers = overwrite before 0 lifted })

-- What comes of a text.
abbrev pub Lifting : Format → List ℕ → List ℕ → Outcome TextSizes (List ℕ) → Type 0
Lifting format text before o = FromText limits no_text_sizes before (written_as format before) text o

abbrev pub OnlyLifting : Format → List ℕ → List ℕ → Outcome TextSizes (List ℕ) → Type 0
OnlyLifting format text before o = OnlyFromText limits no_text_sizes before (written_as format before) text o

-- Linear size: "at most n + 5b + 4q nodes, 2q + b prefix variables, d + 1 prefix blocks", and bytes by these.
pub record Linear (format : Format) (s : TextSizes) : Type 0 where
  pub nodes_bound : s.table.nodes ≤ s.table.n + 5 * s.table.b + 4 * s.table.q
  pub variables_bound : s.table.entries ≤ 2 * s.table.q + s.table.b
  pub blocks_bound : s.table.blocks ≤ s.table.depth + 1
  pub bytes_bound : s.bytes ≤ room_as format s.table.nodes s.table.blocks s.table.entries

-- What is promised of lifting a text: `o` is the answer, with what the buffer holds after the call, and `before` is what it held.
pub record LiftsText (format : Format) (text before : List ℕ) (o : Outcome TextSizes (List ℕ)) : Type 0 where
  -- the outcome is the one that comes of the text, and no other is right
  pub outcome : Lifting format text before o
  pub only : OnlyLifting format text before o
  -- if done, the bytes written have the truth value, or the answer, of the file that was read
  pub same : o.answer.verdict.number ≡ 0 → Owed format text (take o.answer.sizes.bytes o.buffers)
  -- and linear size
  pub linear : o.answer.verdict.number ≡ 0 → Linear format o.answer.sizes
  -- they are in the buffer
  pub within : o.answer.sizes.bytes ≤ length o.buffers
  -- the numbers that can come
  pub numbers : mem o.answer.verdict.number (0 ∷ 2 ∷ 6 ∷ 9 ∷ 10 ∷ 11 ∷ 12 ∷ 13 ∷ []) ≡ true
  -- room that is always enough
  pub room : o.answer.verdict.number ≡ 9 → length before < most_bytes format
