-- Blanks and numbers in a text: what QCIR (requests S-1, S-5) and QDIMACS (request S-7) share.
-- Assumes nothing.
use Rattle.std.specs.Prelude.{Bool, false, ◌&&◌, ◌||◌, List, [], ◌∷◌, ◌++◌, ℕ, zero, suc, ◌+◌, ◌*◌, ◌-◌, ◌/◌, ◌%◌, eqb, leb, ltb}
use Rattle.lists.specs.Choice.{pick}
use Rattle.lists.specs.Members.{all}

-- "spaces and tabs"; a carriage return is no space.
unfoldable pub is_space : ℕ → Bool
is_space b = eqb b 32 || eqb b 9

unfoldable pub is_digit : ℕ → Bool
is_digit b = leb 48 b && leb b 57

-- "decimal .. without leading zeros"
unfoldable pub is_numeral : List ℕ → Bool
is_numeral [] = false
is_numeral (d ∷ ds) = leb 49 d && leb d 57 && all is_digit ds

-- The number that digits give, v being what those before them give.
unfoldable pub value_from : ℕ → List ℕ → ℕ
value_from v [] = v
value_from v (d ∷ ds) = value_from (10 * v + (d - 48)) ds

-- The digits of n by at most `steps` divisions by ten; n steps are enough.
unfoldable pub digits_from : ℕ → ℕ → List ℕ
digits_from zero n = (48 + n) ∷ []
digits_from (suc steps) n = pick (ltb n 10) ((48 + n) ∷ []) (digits_from steps (n / 10) ++ ((48 + n % 10) ∷ []))

-- The digits of n in ASCII, the highest first, without leading zeros; of 0, the one digit 0.
unfoldable pub digits : ℕ → List ℕ
digits n = digits_from n n
