-- The blocks of a level from a node on.
-- Assumes nothing.
use Rattle.std.specs.Prelude.{true, List, [], ◌∷◌, ◌++◌, ◌≡◌, ℕ, zero, suc, ◌-◌, ◌<◌, Option, Some, None}
use Rattle.lists.specs.Choice.{pick}
use Rattle.formula.specs.Node.{Table}
use Rattle.prenex_form.specs.Scope.{inner, level}
use Rattle.arrays.specs.Held.{at_level}

module _ {ℓ} {A : Type ℓ} where
  -- the k parts from part i on
  unfoldable pub parts_from : (ℕ → List A) → ℕ → ℕ → List A
  parts_from g i zero = []
  parts_from g i (suc k) = g i ++ parts_from g (suc i) k

  -- parts i, .. n - 1
  unfoldable pub between : (ℕ → List A) → ℕ → ℕ → List A
  between g i n = parts_from g i (n - i)

-- the blocks of level l from node i on, in node order
unfoldable pub blocks_from : Table → ℕ → ℕ → List ℕ
blocks_from t l i = between (λ j. pick (at_level t l j) (j ∷ []) []) i t.size

-- the blocks of level l from the given one on, if there is one
abbrev pub linked : Table → ℕ → Option ℕ → List ℕ
linked t l None = []
linked t l (Some b) = b ∷ blocks_from t l (suc b)

-- node i is an inner block of the table
pub record InnerBlock (t : Table) (i : ℕ) : Type 0 where
  pub below : i < t.size
  pub is_inner : inner t i ≡ true

-- node i is an inner block of level l
pub record BlockOf (t : Table) (l i : ℕ) : Type 0 where
  pub block : InnerBlock t i
  pub level_is : level t i ≡ l
