-- The file that grew most, by its property. Each law is proved under the name beside it in proofs/MostGrown.antt.
-- Assumes nothing.
use Rattle.std.specs.Prelude.{◌≡◌, ℕ, ◌*◌, ◌≤◌, ◌<◌}
use Rattle.growth.specs.declared.Growth.{Growth}
use Rattle.growth.specs.Growth.{most_grown}

-- Of n files, this one takes part, no file that takes part grew more, and none before it as much.
pub record GrewMost (gs : ℕ → Growth) (n best : ℕ) : Type 0 where
  pub inside : best < n
  pub takes_part_lem : 0 < (gs best).input
  pub none_more : (i : ℕ) → i < n → 0 < (gs i).input → (gs i).written * (gs best).input ≤ (gs best).written * (gs i).input
  pub none_before : (i : ℕ) → i < best → 0 < (gs i).input → (gs i).written * (gs best).input < (gs best).written * (gs i).input

-- Where a file takes part, `most_grown` is such a file (grew_most),
abbrev pub MostGrewMost : Type 0
MostGrewMost = (gs : ℕ → Growth) (n i : ℕ) → i < n → 0 < (gs i).input → GrewMost gs n (most_grown gs n)

-- and no other is (only_most).
abbrev pub OnlyMost : Type 0
OnlyMost = (gs : ℕ → Growth) (n i : ℕ) → GrewMost gs n i → most_grown gs n ≡ i

-- Where none does, it is no file (none_most).
abbrev pub NoneMost : Type 0
NoneMost = (gs : ℕ → Growth) (n : ℕ) → ((i : ℕ) → i < n → 0 < (gs i).input → ⊥) → most_grown gs n ≡ n
