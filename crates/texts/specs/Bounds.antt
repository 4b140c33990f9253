-- How high the numbers that are written may be, and how far into a text a piece may start.
-- Assumes nothing.
use Rattle.std.specs.Prelude.{List, ℕ, ◌<◌, length, get_or}

-- Each element of the list is below the bound.
abbrev pub AllBelow : ℕ → List ℕ → Type 0
AllBelow bound xs = (k : ℕ) → k < length xs → get_or xs k 0 < bound

-- Numbers that are written are below this one.
abbrev pub number_bound : ℕ
number_bound = 1000000

abbrev pub AllWritable : List ℕ → Type 0
AllWritable xs = AllBelow number_bound xs

-- The last index at which a piece may start, and the last for a line: no index after them wraps.
abbrev pub last_piece : ℕ
last_piece = 1099511627776

abbrev pub last_line : ℕ
last_line = 4294967296
