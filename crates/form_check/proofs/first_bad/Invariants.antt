-- `form_check::first_bad` meets its contract: the loop's invariant: the blocks passed are without a fault, and their names are flagged.
-- Assumes nothing.
use mathlib.Core.Bool.{false}
use mathlib.Core.Path.{◌≡◌}
use Prim.Native.Nat.{ℕ, ◌<◌}
use Rattle.form_check.specs.Verdict.{form_limits, names_before, bad_block}
use Rattle.form_check.specs.Steps.{NamesFlagged}
use Rattle.form_check.proofs.first_bad.Given as goal

abbrev pub invariant-loop-j : goal.invariant-loop-j
invariant-loop-j l = NamesFlagged (names_before l.prefix l.variables l.j) l.bound l.highest × ((k : ℕ) → k < l.j → bad_block form_limits l.prefix l.variables k ≡ false)
