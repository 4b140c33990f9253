-- The tables by which the code takes a byte, made from the machine.
-- Assumes nothing.
use Rattle.std.specs.Prelude.{◌&&◌, ◌≡◌, ℕ, ◌+◌, ◌*◌, eqb, leb}
use mathlib.Core.List.{List, [], ◌∷◌, map, flat_map}
use Rattle.lists.specs.Choice.{pick}
use Rattle.lists.specs.Members.{mem, place}
use Rattle.lists.specs.Parts.{numbers}
use Rattle.qcir.specs.Spelling.{is_space}
use Rattle.qcir_tokens.specs.Tokens.{Token}
use Rattle.qcir_spelling.specs.Machine.{Place, State, step_at}
use Rattle.qcir_scan.specs.Places.{places, place_of, number_of}

-- One byte of each class: 0 for those that stand in comments only, LF, the space for spaces and tabs, # ( ) , - and the digit 0, 1
-- for the other digits, ; = and the letters of the words. Bytes of one class do the same at every place.
unfoldable pub samples : List ℕ
samples = 0 ∷ 10 ∷ 32 ∷ 35 ∷ 40 ∷ 41 ∷ 44 ∷ 45 ∷ 48 ∷ 49 ∷ 59 ∷ 61 ∷ 97 ∷ 100 ∷ 101 ∷ 102 ∷ 105 ∷ 108 ∷ 110 ∷ 111 ∷ 112 ∷ 114 ∷ 115 ∷ 116 ∷ 117 ∷ 120 ∷ []

-- The sample of a byte's class.
unfoldable pub sample_of : ℕ → ℕ
sample_of b = pick (is_space b) 32 (pick (leb 49 b && leb b 57) 49 (pick (mem b samples) b 0))

-- For each byte, where the column of its class begins in `moves`: a column has an entry for each of the 115 places.
unfoldable pub columns : List ℕ
columns = map (λ b. 115 * place (sample_of b) samples) (numbers 0 256)

-- The state in which a step is tried: one byte is taken, a name of number 1 that began at byte 0 is pending, there are no tokens.
unfoldable pub trial : Place → State
trial p = record { place = p; taken = 1; pending = record { number = 1; position = 0 }; tokens = [] }

unfoldable pub first_role : List Token → ℕ
first_role [] = 0
first_role (t ∷ ts) = t.role

-- What such a step has done: 25 if a name begins, 26 if the pending name goes on, 1 to 24 if it ends in this role, 0 if nothing.
unfoldable pub done : State → ℕ
done s = pick (eqb s.pending.position 1) 25 (pick (eqb s.pending.number 1) (first_role s.tokens) 26)

-- The entry for a byte at a place: the number of the next place, and 256 times what is done.
unfoldable pub entry_for : Place → ℕ → ℕ
entry_for p b = let s = step_at 65535 (trial p) p b in number_of s.place + 256 * done s

-- For each class of bytes, and for each place in turn, the entry.
unfoldable pub moves : List ℕ
moves = flat_map (λ b. map (λ p. entry_for p b) places) samples

-- The entry for any byte, at the place with this number.
unfoldable pub entry_at : ℕ → ℕ → ℕ
entry_at i b = entry_for (place_of i) (sample_of b)

-- The code's tables are these.
pub record Tables (ms cs : List ℕ) : Type 0 where
  pub moves_are : ms ≡ moves
  pub columns_are : cs ≡ columns
