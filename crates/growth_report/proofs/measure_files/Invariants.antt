-- `growth_report::measure_files` meets its contract. The loop's invariant: the names measured and those left are all names.
-- Assumes nothing.
use mathlib.Core.Path.{◌≡◌}
use Prim.Native.Nat.{◌+◌, ◌≤◌}
use lib.ListN.{length, drop}
use Rattle.name_lines.specs.Names.{names as names_of}
use Rattle.growth_report.proofs.measure_files.Given as goal

abbrev pub invariant-loop-i : goal.invariant-loop-i
invariant-loop-i l = (length l.lines ≡ 1792) × (l.i ≤ 256) × (length (names_of l.names) ≡ l.i + length (names_of (drop l.from l.names)))
