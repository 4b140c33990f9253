-- `matrix_check::first_unsound` meets its contract: the loop's invariant: no refusal applies to the nodes passed, and the nodes that they name are counted.
-- Assumes nothing.
use mathlib.Core.Bool.{true}
use mathlib.Core.List.{[]}
use mathlib.Core.Path.{◌≡◌}
use Prim.Native.Nat.{ℕ, ◌<◌}
use lib.Dec.{eqb}
use Rattle.acceptance.specs.Verdict.{node_fault}
use Rattle.matrix_check.specs.Steps.{node_limits, Tallied}
use Rattle.matrix_check.proofs.first_unsound.Given as goal

abbrev pub invariant-loop-i : goal.invariant-loop-i
invariant-loop-i l = Tallied l.nodes l.named l.i × ((k : ℕ) → k < l.i → eqb (node_fault node_limits l.nodes [] k) 0 ≡ true)
