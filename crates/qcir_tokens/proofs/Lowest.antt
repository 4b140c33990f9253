-- The lowest of numbers, one number after the other.
-- Assumes nothing.
use mathlib.Core.List.{List, [], ◌∷◌}
use mathlib.Core.Path.{◌≡◌, refl}
use Prim.Native.Nat.{ℕ}
use Rattle.qcir.specs.Refusals.{least}
use Rattle.qcir_tokens.specs.Held.{found_of, with_number}

-- of a list with one number more
pub found_with : (x : ℕ) (xs : List ℕ) → with_number (found_of xs) x ≡ found_of (x ∷ xs)
unfolding with_number found_of least
found_with x [] = refl
found_with x (y ∷ ys) = refl
