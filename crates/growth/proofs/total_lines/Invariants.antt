-- `growth::total_lines` meets its contract. The loop keeps the totals of the lines before i, and that no sum is large.
-- Assumes nothing.
use mathlib.Core.Path.{◌≡◌}
use Prim.Native.Nat.{◌*◌}
use Rattle.growth.specs.Lines.{line_at}
use Rattle.growth.specs.Totals.{totals as totals_of}
use Rattle.growth.specs.Bounds.{Within}
use Rattle.growth.proofs.total_lines.Given as goal

abbrev pub invariant-loop-i : goal.invariant-loop-i
invariant-loop-i l = (l.totals ≡ totals_of (line_at l.lines) l.i) × Within (4294967295 * l.i) l.totals
