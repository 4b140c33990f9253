-- Flags by number.
-- Assumes nothing.
use Rattle.std.specs.Prelude.{Bool, false, List, ◌≡◌, ℕ, length, get_or}
use Rattle.lists.specs.Search.{some_below}
use Rattle.lists.specs.Members.{mem}
use Rattle.formula.specs.Node.{Table}
use Rattle.formula.specs.FreeVariables.{stands_at}

-- There is a flag for each number, and those of the numbers that pass the test are set.
pub record Flags (p : ℕ → Bool) (flags : List Bool) : Type 0 where
  pub size : length flags ≡ 65536
  pub flag_is : (x : ℕ) → get_or flags x false ≡ p x

-- Tests: no number, the numbers of a list, and those at a variable node below node i.
abbrev pub none : ℕ → Bool
none x = false

abbrev pub one_of : List ℕ → ℕ → Bool
one_of xs x = mem x xs

abbrev pub stands_below : Table → ℕ → ℕ → Bool
stands_below t i x = some_below (λ j. stands_at x (t.node j)) i
