-- Membership in a list of numbers, as a test, and the order of its elements.
-- Assumes nothing.
use Rattle.std.specs.Prelude.{Bool, true, false, not, ◌&&◌, ◌||◌, List, [], ◌∷◌, ◌≡◌, eqb, length, get_or}
use Prim.Native.Nat.{ℕ, suc, ◌+◌, ◌≤◌, ◌<◌}
use Rattle.lists.specs.Choice.{pick}

-- x stands in the list
unfoldable pub mem : ℕ → List ℕ → Bool
mem x [] = false
mem x (y ∷ ys) = eqb x y || mem x ys

-- every element passes the test
unfoldable pub all : (ℕ → Bool) → List ℕ → Bool
all p [] = true
all p (y ∷ ys) = p y && all p ys

-- no element stands twice
unfoldable pub distinct : List ℕ → Bool
distinct [] = true
distinct (y ∷ ys) = not (mem y ys) && distinct ys

-- how often x stands in the list
unfoldable pub times : ℕ → List ℕ → ℕ
times x [] = 0
times x (y ∷ ys) = pick (eqb x y) 1 0 + times x ys

-- the highest element; 0 if there is none
unfoldable pub maximum : List ℕ → ℕ
maximum [] = 0
maximum (x ∷ xs) = Prim.Native.Nat.max x (maximum xs)

-- the place of x in the list, counted from 0; the list's length if it is not there
unfoldable pub place : ℕ → List ℕ → ℕ
place x [] = 0
place x (y ∷ ys) = pick (eqb x y) 0 (suc (place x ys))

-- no element is higher than one that comes after it
abbrev pub Ascending : List ℕ → Type 0
Ascending xs = (k m : ℕ) → k ≤ m → m < length xs → get_or xs k 0 ≤ get_or xs m 0

-- each element is higher than every one before it
abbrev pub StrictlyAscending : List ℕ → Type 0
StrictlyAscending xs = (k m : ℕ) → k < m → m < length xs → get_or xs k 0 < get_or xs m 0

-- What holds of the list of the numbers that pass a test: they stand in it, and nothing else does, ascending and once each. There
-- is one such list at most (proofs/Passing.antt: one_list).
pub record ListOf (p : ℕ → Bool) (xs : List ℕ) : Type 0 where
  pub members : (x : ℕ) → mem x xs ≡ p x
  pub ascending : StrictlyAscending xs
