-- What counting the blocks of a table t from the root down gives, block by block and in all.
-- Assumes nothing.
use Rattle.std.specs.Prelude.{◌≡◌, ℕ, ◌+◌, ◌*◌, ◌<◌, ◌≤◌, max}
use Rattle.lists.specs.Choice.{pick}
use Rattle.lists.specs.Parts.{sum}
use Rattle.formula.specs.Node.{Table, is_block}
use Rattle.formula.specs.Tree.{bound_below}
use Rattle.acceptance.specs.Limits.{limit}
use Rattle.prenex_form.specs.Scope.{level}
use Rattle.prenex_form.specs.Levels.{levels}
use Rattle.prenex_form.specs.Names.{bound_count, inner_bound_below, inner_below}
use Rattle.prenex_form.specs.Prefix.{block_count}
use Rattle.prenex_form.specs.Sizes.{added_by}
use Rattle.block_counts.specs.declared.Counts.{Counts}

-- The counts before any block.
abbrev pub no_blocks : Counts
no_blocks = record { blocks = 0; bound = 0; inner = 0; inner_bound = 0; added = 0; deepest = 0 }

-- The counts c with a root block, and with an inner block of level v, that binds q variables.
abbrev pub with_root : ℕ → Counts → Counts
with_root q c =
    record {
      blocks = c.blocks + 1;
      bound = c.bound + q;
      inner = c.inner;
      inner_bound = c.inner_bound;
      added = c.added;
      deepest = c.deepest;
    }

abbrev pub with_inner : ℕ → ℕ → Counts → Counts
with_inner q v c =
    record {
      blocks = c.blocks + 1;
      bound = c.bound + q;
      inner = c.inner + 1;
      inner_bound = c.inner_bound + q;
      added = c.added + (4 * q + 5);
      deepest = max c.deepest v;
    }

-- How large the counts of an accepted table are.
pub record Small (c : Counts) : Type 0 where
  pub blocks_le : c.blocks ≤ limit
  pub bound_le : c.bound ≤ limit
  pub inner_le : c.inner ≤ limit
  pub inner_bound_le : c.inner_bound ≤ limit
  pub added_le : c.added ≤ 9 * limit

-- The blocks from node i up are counted: with the blocks below i each count is the whole table's. The deepest level is at least that of
-- each node from i up, and at most the whole table's.
pub record CountsFrom (t : Table) (i : ℕ) (c : Counts) : Type 0 where
  pub blocks_is : c.blocks + sum (λ j. pick (is_block (t.node j)) 1 0) i ≡ block_count t
  pub bound_is : c.bound + bound_below t i ≡ bound_count t
  pub inner_is : c.inner + inner_below t i ≡ inner_below t t.size
  pub inner_bound_is : c.inner_bound + inner_bound_below t i ≡ inner_bound_below t t.size
  pub added_is : c.added + sum (added_by t) i ≡ sum (added_by t) t.size
  pub deepest_le : c.deepest ≤ levels t
  pub deepest_from : (x : ℕ) → i ≤ x → x < t.size → level t x ≤ c.deepest

-- All blocks are counted: b, q, how many blocks are inner, how many variables these bind, how many nodes they add, and the deepest level.
pub record BlockCounts (t : Table) (c : Counts) : Type 0 where
  pub blocks_is : c.blocks ≡ block_count t
  pub bound_is : c.bound ≡ bound_count t
  pub inner_is : c.inner ≡ inner_below t t.size
  pub inner_bound_is : c.inner_bound ≡ inner_bound_below t t.size
  pub added_is : c.added ≡ sum (added_by t) t.size
  pub deepest_is : c.deepest ≡ levels t
