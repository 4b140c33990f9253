-- Lists put together from parts, and parts written over a list.
-- Assumes nothing.
use Rattle.std.specs.Prelude.{Bool, List, [], ◌∷◌, ◌++◌, length, take, drop}
use Prim.Native.Nat.{ℕ, zero, suc, ◌+◌}
use Rattle.lists.specs.Choice.{pick}

-- g 0, g 1, .. g (n - 1), one after the other
unfoldable pub up_to {ℓ} : {A : Type ℓ} → (ℕ → List A) → ℕ → List A
up_to g zero = []
up_to g (suc n) = up_to g n ++ g n

-- the numbers below n that pass the test, ascending
unfoldable pub passing : (ℕ → Bool) → ℕ → List ℕ
passing p n = up_to (λ x. pick (p x) (x ∷ []) []) n

-- the count numbers from start on
unfoldable pub numbers : ℕ → ℕ → List ℕ
numbers start zero = []
numbers start (suc count) = start ∷ numbers (suc start) count

-- the sum of f 0, .. f (n - 1)
unfoldable pub sum : (ℕ → ℕ) → ℕ → ℕ
sum f zero = 0
sum f (suc n) = sum f n + f n

-- the highest of f 0, .. f (n - 1); 0 if there are none
unfoldable pub highest : (ℕ → ℕ) → ℕ → ℕ
highest f zero = 0
highest f (suc n) = Prim.Native.Nat.max (highest f n) (f n)

-- the list out with ws put over it from index at on
unfoldable pub overwrite : List ℕ → ℕ → List ℕ → List ℕ
overwrite out at ws = take at out ++ (ws ++ drop (at + length ws) out)
