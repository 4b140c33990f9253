-- `leading_blocks::take_blocks` meets its contract. The invariant: no node passed stops the search, and all of them are taken off.
-- Assumes nothing.
use mathlib.Core.Path.{◌≡◌}
use mathlib.Core.Bool.{false}
use Prim.Native.Nat.{ℕ, ◌<◌}
use Rattle.formula.specs.Words.{table_of}
use Rattle.kept_prefix.specs.Leading.{stops}
use Rattle.leading_blocks.specs.Front.{Taken}
use Rattle.leading_blocks.proofs.take_blocks.Given as goal

abbrev pub invariant-loop-k : goal.invariant-loop-k
invariant-loop-k l = ((j : ℕ) → j < l.k → stops (table_of l.words l.list) j ≡ false)
    × Taken (table_of l.words l.list) l.k l.front l.used
