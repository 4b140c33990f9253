-- What a table may hold: the limits of the checker's tests, as parameters of their definitions.
-- Assumes nothing.
use Rattle.std.specs.Prelude.{Bool, true, false, ℕ}

pub record TableLimits : Type 0 where
  -- the most nodes, list entries, and variables bound by all blocks together
  pub nodes : ℕ
  pub entries : ℕ
  pub counts : ℕ
  -- the highest variable number
  pub highest : ℕ
  -- whether a node may be a block
  pub blocks : Bool
  -- whether a block may be empty
  pub empty : Bool

-- "At most 4,096 nodes, 4,096 list entries, and 4,096 for the sum of all counts."
abbrev pub limit : ℕ
limit = 4096

-- The limits of formula tables, with empty blocks or without: a variable is "its number, 1 to 65,535".
abbrev pub tables_with : Bool → TableLimits
tables_with empty = record { nodes = limit; entries = limit; counts = limit; highest = 65535; blocks = true; empty = empty }

-- Request S-6: "a count of 0 is now refused".
abbrev pub table_limits : TableLimits
table_limits = tables_with false

-- "Stored tables" may have a count of 0.
abbrev pub stored_limits : TableLimits
stored_limits = tables_with true

-- The limits of a prenex form's matrix: a table without blocks, so without a list, of so many nodes and with numbers up to this one.
abbrev pub matrix_within : ℕ → ℕ → TableLimits
matrix_within nodes highest = record { nodes = nodes; entries = 0; counts = 0; highest = highest; blocks = false; empty = false }

-- A form has at most 4,096 nodes of its table, 5 for each of as many blocks and 4 for each of as many bound variables.
abbrev pub matrix_limits : ℕ → TableLimits
matrix_limits highest = matrix_within 40960 highest
