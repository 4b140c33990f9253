-- `form_check::flag_names` meets its contract: the loop's invariant is `Reached`, of the names passed so far, whatever names were flagged before.
-- Assumes nothing.
use mathlib.Core.List.{List}
use Prim.Native.Nat.{ℕ}
use Rattle.form_check.specs.Steps.{NamesFlagged}
use Rattle.form_check.proofs.Flags.{Reached}
use Rattle.form_check.proofs.flag_names.Given as goal

abbrev pub invariant-loop-x : goal.invariant-loop-x
invariant-loop-x l = (before : List ℕ) → NamesFlagged before l.initial.bound l.initial.highest → Reached l.names before l.bound l.highest l.x-index
