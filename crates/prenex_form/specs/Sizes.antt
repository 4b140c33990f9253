-- What measuring gives (document 01, "When the lifter says no"), and the rule by which it is counted.
-- Assumes nothing.
use Rattle.std.specs.Prelude.{◌≡◌, ℕ, ◌+◌, ◌-◌, ◌*◌, eqb, length}
use Rattle.lists.specs.Choice.{pick}
use Rattle.lists.specs.Parts.{sum}
use Rattle.formula.specs.Node.{Table, is_block}
use Rattle.formula.specs.Tree.{count}
use Rattle.prenex_form.specs.declared.Sizes.{Sizes}
use Rattle.prenex_form.specs.Scope.{inner, depth}
use Rattle.prenex_form.specs.Names.{bound_count, inner_bound_below, inner_below}
use Rattle.prenex_form.specs.Matrix.{kept, prenex_nodes}
use Rattle.prenex_form.specs.Prefix.{block_count, prefix_blocks, written_variables}

-- "Measuring gives n, b, q, depth, and the nodes, blocks and list entries that lifting writes."
unfoldable pub sizes : Table → Sizes
sizes t =
    record {
      n = t.size;
      b = block_count t;
      q = bound_count t;
      depth = depth t;
      nodes = length (prenex_nodes t);
      blocks = length (prefix_blocks t);
      entries = length (written_variables t);
    }

-- "4 × count + 5 for each inner block": the nodes that node i adds.
unfoldable pub added_by : Table → ℕ → ℕ
added_by t i = pick (inner t i) (4 * count t i + 5) 0

-- No prefix without blocks; else a block for each level and one more: as many as the depth if the root is a block, one more if not.
unfoldable pub prefix_count : Table → ℕ
prefix_count t = pick (eqb (block_count t) 0) 0 (pick (is_block (t.node (t.size - 1))) (depth t) (depth t + 1))

-- The lengths of what is written, counted on the table alone. That this holds of every tree without empty blocks is the theorem
-- `size_rule` (proofs/Theorem.antt).
pub record SizeRule (t : Table) : Type 0 where
  -- "So K nodes are joined by 4 × count + 5 for each inner block"; request S-6: "The size rule loses its case for count 0"
  pub nodes_rule : length (prenex_nodes t) ≡ kept t + sum (added_by t) t.size
  -- "A table without blocks has no prefix at all"; block 0, and "Block j, for level j"
  pub blocks_rule : length (prefix_blocks t) ≡ prefix_count t
  -- a name for each bound variable, a copy for each one of an inner block, and a definition variable for each inner block
  pub entries_rule : length (written_variables t) ≡ bound_count t + inner_bound_below t t.size + inner_below t t.size
