-- The blocks in front of a table: "blocks are taken off from the root down as long as no name of theirs repeats, what is below them is
-- lifted as a table of its own".
-- Assumes nothing.
use Rattle.std.specs.Prelude.{Bool, not, ◌||◌, List, [], ◌∷◌, ℕ, suc, ◌-◌, ◌*◌, take}
use Rattle.lists.specs.Search.{lowest}
use Rattle.lists.specs.Members.{distinct}
use Rattle.lists.specs.Parts.{up_to}
use Rattle.formula.specs.Node.{Node, Table, is_block, bound}
use Rattle.formula.specs.Words.{width, node_count, table_of}
use Rattle.formula.specs.Form.{Block}
use Rattle.kept_prefix.specs.Blocks.{prefix_names}
use Rattle.prenex_form.specs.Levels.{quantifier_at}

-- A block node as a prefix block.
unfoldable pub block_of : Node → Block
block_of nd = record { quantifier = quantifier_at nd; variables = bound nd }

-- Node j from the root down, the root at 0. Of an accepted table, each block's body is the node below it.
unfoldable pub from_root : Table → ℕ → Node
from_root t j = t.node (t.size - suc j)

-- The k nodes from the root down, as prefix blocks.
unfoldable pub outermost : Table → ℕ → List Block
outermost t k = up_to (λ j. block_of (from_root t j) ∷ []) k

-- Node j from the root down is no block, or a name of it or of one above it repeats.
unfoldable pub stops : Table → ℕ → Bool
stops t j = not (is_block (from_root t j)) || not (distinct (prefix_names (outermost t (suc j))))

-- How many blocks are taken off.
unfoldable pub leading_count : Table → ℕ
leading_count t = lowest (stops t) t.size

unfoldable pub leading_blocks : Table → List Block
leading_blocks t = outermost t (leading_count t)

-- The words of a table without its last k nodes. The list stays whole: entries that no block covers are never looked at.
unfoldable pub words_below : ℕ → List ℕ → List ℕ
words_below k ws = take (width * (node_count ws - k)) ws

-- The table below the leading blocks.
unfoldable pub below : List ℕ → List ℕ → Table
below ws ls = table_of (words_below (leading_count (table_of ws ls)) ws) ls
