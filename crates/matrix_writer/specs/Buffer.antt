-- Nodes in a lent buffer.
-- Assumes nothing.
use mathlib.Core.List.{List, flat_map}
use Rattle.std.specs.Prelude.{◌≡◌, ℕ, ◌+◌, ◌*◌, ◌≤◌, length}
use Rattle.lists.specs.Parts.{overwrite}
use Rattle.formula.specs.Node.{Node}
use Rattle.formula.specs.Words.{width, node_words}
use Rattle.acceptance.specs.Limits.{matrix_limits}

-- No prenex form has more nodes, whatever its highest number.
abbrev pub longest_form : ℕ
longest_form = (matrix_limits 0).nodes

-- the buffer with these nodes put over it, the first as node at
unfoldable pub with_nodes : List ℕ → ℕ → List Node → List ℕ
with_nodes out at ns = overwrite out (width * at) (flat_map node_words ns)

-- there is room for so many nodes from node at on, and their indices are those of a form
pub record Room (out : List ℕ) (at count : ℕ) : Type 0 where
  pub fits : width * (at + count) ≤ length out
  pub small : at + count ≤ longest_form

-- What a writer leaves: these nodes, and the index after them.
pub record Wrote (before : List ℕ) (at : ℕ) (ns : List Node) (after : List ℕ) (next : ℕ) : Type 0 where
  pub nodes_are : after ≡ with_nodes before at ns
  pub next_is : next ≡ at + length ns
