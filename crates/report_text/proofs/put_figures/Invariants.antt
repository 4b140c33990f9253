-- `report_text::put_figures` meets its contract. The loop's invariant: the figures before the index are put.
-- Assumes nothing.
use Prim.Native.Nat.{◌+◌, ◌*◌, ◌≤◌}
use mathlib.Core.List.{flat_map}
use lib.ListN.{take}
use Rattle.texts.specs.Put.{Put}
use Rattle.report_text.specs.Report.{figure_text}
use Rattle.report_text.proofs.put_figures.Given as goal

abbrev pub invariant-loop-x : goal.invariant-loop-x
invariant-loop-x l = Put l.initial.out l.at (flat_map figure_text (take l.x-index l.figures)) l.out l.next × (l.next ≤ l.at + 21 * l.x-index)
