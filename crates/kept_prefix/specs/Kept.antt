-- The form that keeps the leading blocks: they "stand in front of the lifted prefix, in their order and with their own names".
-- Assumes nothing.
use Rattle.std.specs.Prelude.{Bool, List, ◌++◌, map, ℕ, length}
use Rattle.kept_prefix.specs.Blocks.{keep, prefix_names, filled_blocks}
use Rattle.formula.specs.Node.{Table}
use Rattle.formula.specs.Words.{table_of}
use Rattle.formula.specs.Form.{Block, prefix_words}
use Rattle.formula.specs.FreeVariables.{stands_at, some_node}
use Rattle.prenex_form.specs.declared.Sizes.{Sizes}
use Rattle.prenex_form.specs.Scope.{depth}
use Rattle.prenex_form.specs.Names.{bound_count}
use Rattle.prenex_form.specs.Matrix.{prenex_nodes, written_nodes}
use Rattle.prenex_form.specs.Prefix.{block_count, prefix_blocks}
use Rattle.kept_prefix.specs.Leading.{leading_blocks, below}

-- x stands at a variable node.
unfoldable pub stands : Table → ℕ → Bool
stands t x = some_node t (stands_at x)

-- A block with those of its names that pass the test.
unfoldable pub kept_block : (ℕ → Bool) → Block → Block
kept_block p b = record { quantifier = b.quantifier; variables = keep p b.variables }

-- "names that stand at no variable node below are left out", "A block that is left empty goes".
unfoldable pub front_blocks : Table → List Block → List Block
front_blocks t bs = filled_blocks (map (kept_block (stands t)) bs)

-- The prefix blocks of the form, ..
unfoldable pub kept_blocks : List ℕ → List ℕ → List Block
kept_blocks ws ls = let t = below ws ls in front_blocks t (leading_blocks (table_of ws ls)) ++ prefix_blocks t

-- .. and its three lists: the nodes of the lift of what is below, the blocks' words, and their variables.
unfoldable pub kept_nodes : List ℕ → List ℕ → List ℕ
kept_nodes ws ls = written_nodes (below ws ls)

unfoldable pub kept_prefix : List ℕ → List ℕ → List ℕ
kept_prefix ws ls = prefix_words 0 (kept_blocks ws ls)

unfoldable pub kept_variables : List ℕ → List ℕ → List ℕ
kept_variables ws ls = prefix_names (kept_blocks ws ls)

-- What lifting with the prefix kept answers: n, b, q and depth of the table, and the nodes, blocks and list entries that it writes.
unfoldable pub kept_sizes : List ℕ → List ℕ → Sizes
kept_sizes ws ls =
    let t = table_of ws ls in
    record {
      n = t.size;
      b = block_count t;
      q = bound_count t;
      depth = depth t;
      nodes = length (prenex_nodes (below ws ls));
      blocks = length (kept_blocks ws ls);
      entries = length (kept_variables ws ls);
    }
