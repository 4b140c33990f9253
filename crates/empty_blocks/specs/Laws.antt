-- What the new indices are, so that a reader need not trust how `named_for` recurses: the theorem `new_indices` (proofs/Named.antt).
-- Assumes nothing.
use Rattle.std.specs.Prelude.{true, false, List, ◌≡◌, ℕ, ◌<◌}
use Rattle.formula.specs.Words.{node_count, words_at}
use Rattle.acceptance.specs.Accepted.{LowerOperands}
use Rattle.empty_blocks.specs.Removal.{stays, left_below, new_index}

pub record IndexRule (ws : List ℕ) : Type 0 where
  -- "renumbered in order": a node that stays has the index that counts those below it that stay
  pub in_order : (i : ℕ) → i < node_count ws → stays ws i ≡ true → new_index ws i ≡ left_below ws i
  -- "the body being named where the block was": an empty block has its body's
  pub as_body : (i : ℕ) → i < node_count ws → stays ws i ≡ false → new_index ws i ≡ new_index ws (words_at ws i).c

abbrev pub NewIndexRule : Type 0
NewIndexRule = (ws : List ℕ) → LowerOperands ws → IndexRule ws
