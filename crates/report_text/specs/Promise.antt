-- What is promised of a report.
-- Assumes nothing.
use Rattle.std.specs.Prelude.{List, ◌≡◌, ℕ, ◌≤◌, length}
use Rattle.refusals.specs.Outcome.{Outcome}
use Rattle.form_texts.specs.Writing.{Suffices}
use Rattle.report_text.specs.Report.{reported}
use Rattle.report_text.specs.Bounds.{report_room}

pub record Reports (text ws before : List ℕ) (o : Outcome ℕ (List ℕ)) : Type 0 where
  -- answer and buffer are what comes of the names and the lines
  pub outcome : o ≡ reported text ws before
  -- the bytes are in the buffer
  pub within : o.answer.sizes ≤ length o.buffers
  -- room that is always enough, for figures of 32 bits
  pub room : Suffices report_room before o
