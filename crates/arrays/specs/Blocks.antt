-- The table of a lift's blocks.
-- Assumes nothing.
use Rattle.formula.specs.Node.{Table}
use Rattle.formula.specs.Words.{table_of}
use Rattle.arrays.specs.declared.Blocks.{Blocks}

-- the table that the words and the list hold
abbrev pub table : Blocks → Table
table b = table_of b.words.now b.list.now
