-- Document 01, "The formula table": "List entries that no block covers are never looked at."
-- Assumes nothing.
use Rattle.std.specs.Prelude.{Bool, true, ◌&&◌, List, ◌≡◌, ℕ, ◌+◌, ◌<◌, leb, ltb, length, get_or}
use Rattle.formula.specs.Words.{node_count, field, is_block_kind, range, node_at}
use Rattle.acceptance.specs.Limits.{TableLimits}
use Rattle.acceptance.specs.Verdict.{verdict_within}
use Rattle.prenex.specs.Outcome.{FormBuffers, measured, lifted}
use Rattle.free_variables.specs.Outcome.{listed}
use Rattle.remove_empty_blocks.specs.Outcome.{removed}

-- Lists of one length that give each block of the words ws the same range.
pub record SameRanges (ws ls ls' : List ℕ) : Type 0 where
  pub same_length : length ls ≡ length ls'
  pub same_range : (i : ℕ) → i < node_count ws → is_block_kind (field ws i 0) ≡ true
      → range ls (field ws i 1) (field ws i 2) ≡ range ls' (field ws i 1) (field ws i 2)

-- Node i is a block that covers list entry k.
abbrev pub covers_entry : List ℕ → ℕ → ℕ → Bool
covers_entry ws i k = is_block_kind (field ws i 0) && leb (field ws i 1) k && ltb k (field ws i 1 + field ws i 2)

-- Lists of one length that hold the same in each entry that a block covers, whatever they hold elsewhere, are such lists: the law
-- `covered_alone` (proofs/Theorem.antt).
abbrev pub CoveredAlone : Type 0
CoveredAlone =
    (ws ls ls' : List ℕ) → length ls ≡ length ls'
    → ((i k : ℕ) → i < node_count ws → covers_entry ws i k ≡ true → get_or ls k 0 ≡ get_or ls' k 0)
    → SameRanges ws ls ls'

-- With either list the words ws get the same verdict, within any limits, and are the same nodes; so every operation over tables answers
-- and leaves the same.
pub record SameOutcomes (ws ls ls' : List ℕ) : Type 0 where
  pub same_verdict : (lim : TableLimits) → verdict_within lim ws ls ≡ verdict_within lim ws ls'
  pub same_nodes : (i : ℕ) → i < node_count ws → node_at ws ls i ≡ node_at ws ls' i
  pub same_measured : measured ws ls ≡ measured ws ls'
  pub same_lifted : (before : FormBuffers) → lifted ws ls before ≡ lifted ws ls' before
  pub same_listed : (names : List ℕ) → listed ws ls names ≡ listed ws ls' names
  pub same_removed : (nodes : List ℕ) → removed ws ls nodes ≡ removed ws ls' nodes

-- The theorem `by_ranges` (proofs/Theorem.antt).
abbrev pub ByRanges : Type 0
ByRanges = (ws ls ls' : List ℕ) → SameRanges ws ls ls' → SameOutcomes ws ls ls'
