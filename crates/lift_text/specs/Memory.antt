-- What lifting a text answers and leaves where the caller lends memory for the nodes of the prenex form.
-- Assumes nothing.
use Rattle.std.specs.Prelude.{List, ◌≡◌, ℕ, ◌*◌, ◌<◌, ltb, length}
use Rattle.lists.specs.Choice.{pick}
use Rattle.lists.specs.Parts.{overwrite}
use Rattle.formula.specs.Words.{width, table_of}
use Rattle.refusals.specs.Verdict.{refusal, accepted}
use Rattle.refusals.specs.Outcome.{Outcome, unless_refused}
use Rattle.prenex_form.specs.Matrix.{written_nodes}
use Rattle.qcir.specs.FromText.{limits, FromText, OnlyFromText}
use Rattle.text_answers.specs.declared.Answer.{Answer}
use Rattle.form_writer.specs.declared.Format.{Format}
use Rattle.text_answers.specs.Answers.{TextSizes, no_text_sizes, answer_of}
use Rattle.lift_text.specs.Lifting.{written_as, LiftsText}

-- The memory for the nodes, and the buffer for the text.
pub record Lent : Type 0 where
  pub nodes : List ℕ
  pub out : List ℕ

abbrev pub lent : List ℕ → List ℕ → Lent
lent nodes out = record { nodes = nodes; out = out }

abbrev pub after_in : Answer → Lent → Outcome TextSizes Lent
after_in a held = record { answer = answer_of a; buffers = held }

-- The answer and the buffer for the text alone; and both, beside the memory for the nodes.
abbrev pub text_of : Outcome TextSizes Lent → Outcome TextSizes (List ℕ)
text_of o = record { answer = o.answer; buffers = o.buffers.out }

abbrev pub beside : List ℕ → Outcome TextSizes (List ℕ) → Outcome TextSizes Lent
beside nodes o = record { answer = o.answer; buffers = lent nodes o.buffers }

-- What comes of a table that was read: 24, if the nodes of its prenex form have no room in the memory lent for them; else they stand at its
-- start, also where the text has no room, and of the text comes what comes without such memory.
unfoldable pub written_in : Format → Lent → List ℕ → List ℕ → Outcome TextSizes Lent
written_in format before ws ls =
    let ns = written_nodes (table_of ws ls) in
    unless_refused (pick (ltb (length before.nodes) (length ns)) (refusal 24 0) accepted) no_text_sizes before
    (beside (overwrite before.nodes 0 ns) (written_as format before.out ws ls))

-- What comes of a text.
abbrev pub LiftingIn : Format → List ℕ → Lent → Outcome TextSizes Lent → Type 0
LiftingIn format text before o = FromText limits no_text_sizes before (written_in format before) text o

-- What is promised of lifting a text in lent memory.
pub record LiftsTextIn (format : Format) (text : List ℕ) (before : Lent) (o : Outcome TextSizes Lent) : Type 0 where
  -- the outcome is the one that comes of the text, and no other is right
  pub outcome : LiftingIn format text before o
  pub only : OnlyFromText limits no_text_sizes before (written_in format before) text o
  -- all that is promised of lifting without lent memory, where 24 does not refuse it
  pub lifts : (o.answer.verdict.number ≡ 24 → ⊥) → LiftsText format text before.out (text_of o)
  -- memory for 40,960 nodes is always enough
  pub memory : o.answer.verdict.number ≡ 24 → length before.nodes < width * 40960
