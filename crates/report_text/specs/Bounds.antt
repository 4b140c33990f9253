-- How long a report is, so that no index wraps and a buffer for every report can be made.
-- Assumes nothing.
use Rattle.std.specs.Prelude.{List, ◌≡◌, ℕ, ◌*◌, length}
use Rattle.refusals.specs.Verdict.{accepted}
use Rattle.growth.specs.Lines.{line_width}
use Rattle.name_lines.specs.Names.{names, names_verdict}

-- A line for a name: 255 bytes, seven figures of a space and at most twenty digits, and an LF; at most 256 of them.
abbrev pub most_line : ℕ
most_line = 403

-- Room for every report: the lines, and `total` with ten figures and an LF.
abbrev pub report_room : ℕ
report_room = 103384

-- Names that are taken, so many, and a line of figures for each.
pub record LineEach (text ws : List ℕ) (count : ℕ) : Type 0 where
  pub taken : names_verdict (names text) ≡ accepted
  pub number : count ≡ length (names text)
  pub lines : length ws ≡ line_width * count
