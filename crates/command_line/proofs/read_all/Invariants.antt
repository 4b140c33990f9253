-- `command_line::read_all` meets its contract. The loop keeps what is read within the text, and it is what the reader gave.
-- Assumes nothing.
use Rattle.std.proofs.Common.{◌≡◌, ◌-◌, ◌≤◌, take}
use lib.ListN.{length as size}
use Rattle.std.specs.Io.KnownBytes.{Consumes}
use Rattle.command_line.proofs.read_all.Given as goal

abbrev pub invariant-loop-length : goal.invariant-loop-length
invariant-loop-length g l =
    (l.length ≤ size l.text) × (size l.text ≡ size l.initial.text)
    × Consumes (g.R.Read.remaining l.initial.from) (g.R.Read.remaining l.from) (take l.length l.text)

abbrev pub decreases-loop-length : goal.decreases-loop-length
decreases-loop-length g l = size l.text - l.length
