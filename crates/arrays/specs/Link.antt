-- Chains through arrays: where the next number that passes a test stands.
-- Assumes nothing.
use Rattle.std.specs.Prelude.{Bool, true, ◌&&◌, List, ◌≡◌, ℕ, suc, ◌<◌, ◌≤◌, eqb, leb, ltb, get_or}
use Rattle.lists.specs.Choice.{pick}
use Rattle.lists.specs.Search.{lowest}

-- one more than the lowest number from i up, and below n, that passes the test; 0 if there is none
unfoldable pub link : (ℕ → Bool) → ℕ → ℕ → ℕ
link p i n =
    let j = lowest (λ j. leb i j && p j) n in
    pick (ltb j n) (suc j) 0

-- The numbers below n that pass a test, chained upward by a key: where the first with each key stands, and after each number the
-- next with its key.
pub record Chains (passes : ℕ → Bool) (key : ℕ → ℕ) (n : ℕ) (firsts nexts : List ℕ) : Type 0 where
  pub first_is : (k : ℕ) → k ≤ n → get_or firsts k 0 ≡ link (λ j. passes j && eqb (key j) k) 0 n
  pub next_is : (i : ℕ) → i < n → passes i ≡ true → get_or nexts i 0 ≡ link (λ j. passes j && eqb (key j) (key i)) (suc i) n
