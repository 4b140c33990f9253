-- `leading_blocks::use_names` meets its contract. The invariant: the names passed are flagged, none of them repeats, and those that stand
-- at a variable node are counted.
-- Assumes nothing.
use mathlib.Core.Path.{◌≡◌}
use mathlib.Core.Bool.{true, false}
use mathlib.Core.List.{List, ◌++◌}
use Prim.Native.Nat.{ℕ}
use lib.ListN.{length, get_or, take}
use Rattle.lists.specs.Members.{distinct}
use Rattle.kept_prefix.specs.Blocks.{keep}
use Rattle.leading_blocks.specs.Flags.{Flags, one_of}
use Rattle.leading_blocks.proofs.Joined.{Joining}
use Rattle.leading_blocks.proofs.use_names.Given as goal

abbrev pub invariant-loop-name : goal.invariant-loop-name
invariant-loop-name l = (l.standing_names ≡ length (keep (λ x. get_or l.standing x false) (take l.name-index l.names)))
    × ((before : List ℕ) → Flags (one_of before) l.initial.used → distinct before ≡ true → Joining (before ++ take l.name-index l.names) l.used)
