-- What a call leaves in a lent buffer that puts a piece at an index of it and hands back the index after the piece. A piece that does not
-- fit is counted all the same, so that a run over an empty buffer counts; of such a piece any part may be stored.
-- Assumes nothing.
use Rattle.std.specs.Prelude.{List, ◌≡◌, ℕ, ◌+◌, ◌≤◌, length}
use Rattle.lists.specs.Parts.{overwrite}

pub record Put (before : List ℕ) (at : ℕ) (piece after : List ℕ) (next : ℕ) : Type 0 where
  pub counted : next ≡ at + length piece
  pub kept : length after ≡ length before
  pub held : at + length piece ≤ length before → after ≡ overwrite before at piece
