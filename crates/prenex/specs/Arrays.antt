-- Room for a written form, and the buffers once it stands in them.
-- Assumes nothing.
use Rattle.std.specs.Prelude.{List, ◌≡◌, ℕ, ◌≤◌, length}
use Rattle.lists.specs.Parts.{overwrite}
use Rattle.formula.specs.Words.{table_of}
use Rattle.prenex_form.specs.Matrix.{written_nodes}
use Rattle.prenex_form.specs.Prefix.{written_prefix, written_variables}

-- There is room for all that is written.
pub record Room (ws ls nodes prefix variables : List ℕ) : Type 0 where
  pub nodes_fit : length (written_nodes (table_of ws ls)) ≤ length nodes
  pub prefix_fits : length (written_prefix (table_of ws ls)) ≤ length prefix
  pub variables_fit : length (written_variables (table_of ws ls)) ≤ length variables

-- The three buffers after the form was written over their starts.
pub record Written (ws ls nodes prefix variables nodes' prefix' variables' : List ℕ) : Type 0 where
  pub nodes_are : nodes' ≡ overwrite nodes 0 (written_nodes (table_of ws ls))
  pub prefix_is : prefix' ≡ overwrite prefix 0 (written_prefix (table_of ws ls))
  pub variables_are : variables' ≡ overwrite variables 0 (written_variables (table_of ws ls))
