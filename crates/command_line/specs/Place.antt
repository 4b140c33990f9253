-- Line and column of the byte that follows a text, both from 1. A line ends with its LF, and columns
-- are bytes.
-- Assumes nothing.
use Rattle.std.specs.Prelude.{List, [], ◌∷◌, ℕ, suc, eqb}
use Rattle.lists.specs.Choice.{pick}

abbrev pub line_end : ℕ
line_end = 10

-- The line after a byte in a given line.
abbrev pub next_line : ℕ → ℕ → ℕ
next_line here byte = pick (eqb byte line_end) (suc here) here

-- The column after a byte in a given column.
abbrev pub next_column : ℕ → ℕ → ℕ
next_column here byte = pick (eqb byte line_end) 1 (suc here)

-- What a step makes of a text, byte after byte, from a given number on.
unfoldable pub through : (ℕ → ℕ → ℕ) → ℕ → List ℕ → ℕ
through step here [] = here
through step here (byte ∷ text) = through step (step here byte) text

abbrev pub line : List ℕ → ℕ
line text = through next_line 1 text

abbrev pub column : List ℕ → ℕ
column text = through next_column 1 text
