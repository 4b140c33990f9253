-- What holds of every accepted table. Crates above cite this record (proofs/Accepted.antt makes it of the verdict, and the verdict of
-- it) and never the verdict's text.
-- Assumes nothing.
use Rattle.std.specs.Prelude.{true, false, List, ◌≡◌, ℕ, ◌+◌, ◌*◌, ◌<◌, ◌≤◌, length}
use Rattle.lists.specs.Members.{all}
use Rattle.formula.specs.Node.{bound}
use Rattle.formula.specs.Words.{width, node_count, field, is_block_kind, words_at, node_at, table_of}
use Rattle.formula.specs.Tree.{Proper, NoEmptyBlocks, bound_below}
use Rattle.acceptance.specs.Limits.{TableLimits, table_limits}
use Rattle.acceptance.specs.Verdict.{is_number_to, well_formed, forward_reference}

pub record AcceptedWithin (lim : TableLimits) (ws ls : List ℕ) : Type 0 where
  -- the words are whole nodes
  pub whole : length ws ≡ width * node_count ws
  -- operands and bodies are lower, each node but the last is named exactly once, no block binds a number twice
  pub proper : Proper (table_of ws ls)
  -- the limits on nodes, list entries and the sum of counts
  pub nodes_limit : node_count ws ≤ lim.nodes
  pub list_limit : length ls ≤ lim.entries
  pub counts_limit : bound_below (table_of ws ls) (node_count ws) ≤ lim.counts
  -- each node's words are within their ranges, unused fields 0
  pub formed : (i : ℕ) → i < node_count ws → well_formed lim (words_at ws i) ≡ true
  -- ranges fit
  pub fits : (i : ℕ) → i < node_count ws → is_block_kind (field ws i 0) ≡ true → field ws i 1 + field ws i 2 ≤ length ls
  -- no block is empty, where none may be
  pub filled : lim.empty ≡ false → NoEmptyBlocks (table_of ws ls)
  -- covered entries are variable numbers
  pub numbered : (i : ℕ) → i < node_count ws → all (is_number_to lim.highest) (bound (node_at ws ls i)) ≡ true

-- Operands and bodies are lower: no node has refusal 4.
abbrev pub LowerOperands : List ℕ → Type 0
LowerOperands ws = (i : ℕ) → i < node_count ws → forward_reference i (words_at ws i) ≡ false

abbrev pub Accepted : List ℕ → List ℕ → Type 0
Accepted = AcceptedWithin table_limits
