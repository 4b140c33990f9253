-- The lowest number that passes a test, if there is one.
-- Assumes nothing.
use Rattle.std.specs.Prelude.{Bool, ℕ, Option}
use Rattle.std.specs.Bool.{then_some}
use Rattle.lists.specs.Search.{lowest, some_below}

-- The lowest number below n that passes the test p, if there is one.
abbrev pub lowest_below : (ℕ → Bool) → ℕ → Option ℕ
lowest_below p n = then_some (some_below p n) (lowest p n)
