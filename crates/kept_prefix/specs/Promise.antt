-- What is owed of the form that keeps the leading blocks. The theorems are proved in proofs/Theorem.antt, each under the name beside it.
-- Assumes nothing.
use Rattle.std.specs.Prelude.{true, List, ◌≡◌, ℕ, ◌+◌, ◌*◌, ◌≤◌, ◌<◌, length}
use Rattle.lists.specs.Members.{mem, distinct}
use Rattle.formula.specs.Node.{Table, is_block}
use Rattle.formula.specs.Words.{node_count, table_of}
use Rattle.formula.specs.Valuation.{Valuation}
use Rattle.formula.specs.Truth.{truth}
use Rattle.formula.specs.Form.{quantify}
use Rattle.kept_prefix.specs.Blocks.{prefix_names}
use Rattle.refusals.specs.Verdict.{accepted}
use Rattle.acceptance.specs.Verdict.{verdict}
use Rattle.prenex_form.specs.Scope.{depth}
use Rattle.prenex_form.specs.Names.{highest_number, bound_count}
use Rattle.prenex_form.specs.Prefix.{block_count, written_variables}
use Rattle.prenex_form.specs.Promise.{SizesOf}
use Rattle.kept_prefix.specs.Form.{FormOf}
use Rattle.kept_prefix.specs.Leading.{from_root, outermost, leading_count, leading_blocks, words_below, below}
use Rattle.kept_prefix.specs.Kept.{front_blocks, kept_nodes, kept_prefix, kept_variables, kept_sizes}

-- The k nodes from the root down are blocks.
abbrev pub AllBlocks : Table → ℕ → Type 0
AllBlocks t k = (j : ℕ) → j < k → is_block (from_root t j) ≡ true

-- The leading blocks are blocks, no name of theirs repeats, and there are no more such (leading_most).
pub record LeadingMost (t : Table) : Type 0 where
  pub blocks : AllBlocks t (leading_count t)
  pub apart : distinct (prefix_names (leading_blocks t)) ≡ true
  pub most : (k : ℕ) → AllBlocks t k → k ≤ t.size → distinct (prefix_names (outermost t k)) ≡ true → k ≤ leading_count t

-- What is left of an accepted table without k blocks from the root down is an accepted table, and has under these blocks the table's truth
-- value. All sizes count the blocks taken off (blocks_below).
pub record Below (ws ls : List ℕ) (k : ℕ) : Type 0 where
  pub accepts : verdict (words_below k ws) ls ≡ accepted
  pub truth_kept : (v : Valuation) → quantify (outermost (table_of ws ls) k) (truth (table_of (words_below k ws) ls)) v ≡ truth (table_of ws ls) v
  pub nodes_less : node_count ws ≡ node_count (words_below k ws) + k
  pub blocks_less : block_count (table_of ws ls) ≡ block_count (table_of (words_below k ws) ls) + k
  pub bound_less : bound_count (table_of ws ls) ≡ bound_count (table_of (words_below k ws) ls) + length (prefix_names (outermost (table_of ws ls) k))
  pub depth_less : depth (table_of ws ls) ≡ depth (table_of (words_below k ws) ls) + k

abbrev pub BlocksBelow : Type 0
BlocksBelow = (ws ls : List ℕ) (k : ℕ) → verdict ws ls ≡ accepted → k ≤ node_count ws → AllBlocks (table_of ws ls) k → Below ws ls k

-- Beside what is owed of every prenex form: the sizes by those of the table below, and which names stand where.
pub record KeptOf (ws ls : List ℕ) : Type 0 where
  -- the table's truth value under every valuation, its free variables, no name bound twice, and all else that is owed of a lift's form but
  -- that its names are new
  pub form : FormOf (table_of ws ls) (kept_nodes ws ls) (kept_prefix ws ls) (kept_variables ws ls)
  -- the sizes answered are those written
  pub sizes_are : SizesOf (kept_sizes ws ls) (kept_nodes ws ls) (kept_prefix ws ls) (kept_variables ws ls)
  -- "at most n + 5b + 4q nodes with n, b, q" of the table below, and its prefix behind the blocks in front
  pub nodes_few : node_count (kept_nodes ws ls) ≤ (below ws ls).size + 5 * block_count (below ws ls) + 4 * bound_count (below ws ls)
  pub variables_few : length (kept_variables ws ls)
      ≤ length (prefix_names (front_blocks (below ws ls) (leading_blocks (table_of ws ls)))) + 2 * bound_count (below ws ls) + block_count (below ws ls)
  pub blocks_few : (kept_sizes ws ls).blocks ≤ length (front_blocks (below ws ls) (leading_blocks (table_of ws ls))) + depth (below ws ls) + 1
  -- "New names must meet none of them": the names in front are numbers of the table below, the others are above its highest
  pub front_names_lem : (x : ℕ) → mem x (prefix_names (front_blocks (below ws ls) (leading_blocks (table_of ws ls)))) ≡ true → x ≤ highest_number (below ws ls)
  pub new_names_lem : (x : ℕ) → mem x (written_variables (below ws ls)) ≡ true → highest_number (below ws ls) < x

-- Every accepted table has this form (kept_prenex).
abbrev pub KeptPrenex : Type 0
KeptPrenex = (ws ls : List ℕ) → verdict ws ls ≡ accepted → KeptOf ws ls
