-- The numbers that the free and prefix lines name, as marks in an array, and uses of variables that are marked.
-- Assumes nothing.
use Rattle.std.specs.Prelude.{Bool, true, false, List, [], ◌∷◌, ◌≡◌, ℕ, zero, suc, ◌≤◌, ◌<◌, length, get_or}
use Rattle.lists.specs.Choice.{pick}
use Rattle.lists.specs.Members.{mem}
use Rattle.qcir_tokens.specs.Tokens.{is_outer, is_use}
use Rattle.qcir_tokens.specs.Held.{number_count}

-- The numbers of the entries of free and prefix lines among the n tokens from token i on, up to the first token that is none.
unfoldable pub outer_from : List ℕ → List ℕ → ℕ → ℕ → List ℕ
outer_from roles numbers i zero = []
outer_from roles numbers i (suc n) = pick (is_outer (get_or roles i 0)) (get_or numbers i 0 ∷ outer_from roles numbers (suc i) n) []

-- They are marked, and the output's token is the first after theirs.
pub record Outer (roles numbers : List ℕ) (count output : ℕ) (marks : List Bool) : Type 0 where
  pub wide : length marks ≡ number_count
  pub marked : (x : ℕ) → get_or marks x false ≡ mem x (outer_from roles numbers 0 count)
  pub output_is : output ≡ length (outer_from roles numbers 0 count)

-- Each number that one of the tokens from token i to n uses is a gate's or marked.
abbrev pub AllMarked : List ℕ → List ℕ → List ℕ → List Bool → ℕ → ℕ → Type 0
AllMarked roles numbers gates marks i n =
    (k : ℕ) → i ≤ k → k < n → is_use (get_or roles k 0) ≡ true → get_or gates (get_or numbers k 0) 0 ≡ 0 → get_or marks (get_or numbers k 0) false ≡ true
