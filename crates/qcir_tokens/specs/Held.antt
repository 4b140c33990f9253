-- Tokens held in three arrays: roles, numbers and positions; and what is found among them.
-- Assumes nothing.
use Rattle.std.specs.Prelude.{true, List, [], ◌∷◌, ◌≡◌, ℕ, zero, suc, ◌≤◌, min, length, get_or, Option, None, Some}
use Rattle.qcir.specs.File.{File}
use Rattle.qcir.specs.Refusals.{least}
use Rattle.qcir_tokens.specs.Tokens.{Token, file_tokens, definition, ascending}

-- Token i of the arrays.
unfoldable pub token_at : List ℕ → List ℕ → List ℕ → ℕ → Token
token_at roles numbers positions i =
    record { role = get_or roles i 0; name = record { number = get_or numbers i 0; position = get_or positions i 0 } }

-- The count tokens from token i on.
unfoldable pub tokens_from : List ℕ → List ℕ → List ℕ → ℕ → ℕ → List Token
tokens_from roles numbers positions i zero = []
tokens_from roles numbers positions i (suc count) = token_at roles numbers positions i ∷ tokens_from roles numbers positions (suc i) count

-- How many tokens a text can have: at most half as many as it has bytes.
abbrev pub token_limit : ℕ
token_limit = 32768

-- The arrays have room for `count` tokens.
pub record Room (roles numbers positions : List ℕ) (count : ℕ) : Type 0 where
  pub roles_hold : count ≤ length roles
  pub numbers_hold : count ≤ length numbers
  pub positions_hold : count ≤ length positions

-- The arrays hold the tokens of file f, in the order of its text. They hold no other file's (`holds_one`, proofs/Files.antt).
pub record HoldsFile (roles numbers positions : List ℕ) (count : ℕ) (f : File) : Type 0 where
  pub tokens : tokens_from roles numbers positions 0 count ≡ file_tokens f
  pub ordered : ascending 0 (file_tokens f) ≡ true
  pub room : Room roles numbers positions count
  pub few : count ≤ token_limit

-- For what looks at no positions: they hold its tokens at some.
abbrev pub HoldsNames : List ℕ → List ℕ → ℕ → File → Type 0
HoldsNames roles numbers count f = (positions : List ℕ) × HoldsFile roles numbers positions count f

-- How many different numbers of 16 bits there are.
abbrev pub number_count : ℕ
number_count = 65536

-- The array gives, for each number, the first token that defines a gate of this number: one more than its index, 0 if none does.
pub record Definitions (gates : List ℕ) (ts : List Token) : Type 0 where
  pub wide : length gates ≡ number_count
  pub holds : (x : ℕ) → get_or gates x 0 ≡ definition ts x

-- The same of the first `count` tokens of the arrays, whatever their positions.
abbrev pub DefinitionsIn : List ℕ → List ℕ → ℕ → List ℕ → Type 0
DefinitionsIn roles numbers count gates = (positions : List ℕ) → Definitions gates (tokens_from roles numbers positions 0 count)

-- The lowest of the numbers, if there are any.
unfoldable pub found_of : List ℕ → Option ℕ
found_of [] = None
found_of (x ∷ xs) = Some (least (x ∷ xs))

-- The lowest of those found and one number more.
unfoldable pub with_number : Option ℕ → ℕ → Option ℕ
with_number None x = Some x
with_number (Some y) x = Some (min x y)
