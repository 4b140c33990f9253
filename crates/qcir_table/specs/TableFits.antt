-- Room for the table of a file.
-- Assumes nothing.
use Rattle.std.specs.Prelude.{List, ℕ, ◌≤◌, length}
use Rattle.formula.specs.Words.{node_count}
use Rattle.acceptance.specs.Limits.{limit}
use Rattle.qcir.specs.File.{File}
use Rattle.qcir.specs.Table.{table_words, table_list}

-- The file's table is within the limits and fits the two buffers.
pub record TableFits (f : File) (words list : List ℕ) : Type 0 where
  pub words_fit : length (table_words f) ≤ length words
  pub list_fits : length (table_list f) ≤ length list
  pub few_nodes : node_count (table_words f) ≤ limit
  pub few_entries : length (table_list f) ≤ limit
