-- Ranges of a list: "A block binds the `count` entries from `first` on."
-- Assumes nothing.
use mathlib.Core.Path.{◌≡◌}
use mathlib.Core.List.{List}
use Prim.Native.Nat.{ℕ, ◌+◌, ◌≤◌, ◌<◌}
use native.Mathlib.Omega.{arith}
use lib.ListN.{length, get_or, length-take, length-drop}
use lib.Seq.{get_or-take, get_or-drop}
use Rattle.formula.specs.Words.{range}

pub range_length : (ls : List ℕ) (first count : ℕ) → first + count ≤ length ls → length (range ls first count) ≡ count
unfolding range
range_length ls first count h = simp (length-take, length-drop) (omega arith)

pub range_at : (ls : List ℕ) (first count k d : ℕ) → k < count → get_or (range ls first count) k d ≡ get_or ls (first + k) d
unfolding range
range_at ls first count k d h = rw (get_or-take, get_or-drop)
