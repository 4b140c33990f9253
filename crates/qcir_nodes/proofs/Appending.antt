-- Words written after those at the start of a list.
-- Assumes nothing.
use mathlib.Core.List.{List, ◌++◌}
use mathlib.Core.Path.{◌≡◌, ◌∙◌}
use Prim.Native.Nat.{ℕ, ◌+◌, ◌≤◌}
use lib.ListN.{length}
use Rattle.lists.specs.Parts.{overwrite}
use Rattle.lists.proofs.Overwrite.{overwrite_append}

-- a part at any place, then one right after it
pub write_after : (out cur next : List ℕ) (from at : ℕ) (a b : List ℕ) → cur ≡ overwrite out from a → next ≡ overwrite cur at b → at ≡ from + length a
    → from + length a + length b ≤ length out → next ≡ overwrite out from (a ++ b)
write_after out cur next from at a b p q e fits = q ∙ rw (p, e) (overwrite_append out from a b fits)
