-- The lowest number that passes a test, and whether there is one.
-- Assumes nothing.
use Rattle.std.specs.Prelude.{Bool, ℕ, zero, suc, ltb}
use Rattle.lists.specs.Choice.{pick}

-- the lowest number below n that passes the test p; n if there is none
unfoldable pub lowest : (ℕ → Bool) → ℕ → ℕ
lowest p zero = zero
lowest p (suc n) = let m = lowest p n in pick (ltb m n) m (pick (p n) n (suc n))

-- whether some number below n passes it
unfoldable pub some_below : (ℕ → Bool) → ℕ → Bool
some_below p n = ltb (lowest p n) n
