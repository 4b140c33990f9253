-- `command_line::find_place` meets its contract. The loop keeps the place of the byte after those passed.
-- Assumes nothing.
use Prim.Native.Nat.{◌≤◌, ◌+◌}
use mathlib.Core.Path.{◌≡◌}
use lib.ListN.{take}
use Rattle.command_line.specs.Place.{line, column}
use Rattle.command_line.proofs.find_place.Given as goal

abbrev pub invariant-loop-byte : goal.invariant-loop-byte
invariant-loop-byte l = (l.here.line ≡ line (take l.byte-index l.text)) × (l.here.column ≡ column (take l.byte-index l.text))
    × (l.here.line ≤ l.byte-index + 1) × (l.here.column ≤ l.byte-index + 1)
