-- Names flagged by number: 1 is the form checker's flag of a bound name, 2 that of a free one.
-- Assumes nothing.
use Rattle.std.specs.Prelude.{Bool, true, List, ◌≡◌, ℕ, ◌<◌, ◌≤◌, eqb, length, get_or}
use Rattle.lists.specs.Choice.{pick}
use Rattle.lists.specs.Parts.{passing}

-- The flag of a name: one that has a flag keeps it, any other gets 2 if it is found.
unfoldable pub flag_with : ℕ → Bool → ℕ
flag_with before found = pick (eqb before 0) (pick found 2 0) before

-- The highest number that passes a test; 0 if none does.
pub record Highest (p : ℕ → Bool) (h : ℕ) : Type 0 where
  pub above : (x : ℕ) → p x ≡ true → x ≤ h
  pub passes : 0 < h → p h ≡ true

-- The flag 2 stands at each name that passes the test, and at no other. None of them is above `highest`.
pub record FreeFlags (p : ℕ → Bool) (names : List ℕ) (highest : ℕ) : Type 0 where
  pub size : length names ≡ 77824
  pub flagged : (x : ℕ) → eqb (get_or names x 0) 2 ≡ p x
  pub above : (x : ℕ) → p x ≡ true → x ≤ highest
  pub below : highest < 77824

-- The names below n whose flag is 2.
unfoldable pub flagged_below : List ℕ → ℕ → List ℕ
flagged_below names n = passing (λ x. eqb (get_or names x 0) 2) n
