-- What the stage that finds the bindings of a table leaves for its callers.
-- Assumes nothing.
use Rattle.std.specs.Prelude.{List, ◌≡◌, ℕ, ◌≤◌}
use Rattle.formula.specs.Words.{table_of}
use Rattle.prenex_form.specs.Names.{highest_number}
use Rattle.arrays.specs.Held.{Started, Bound}

-- Of an accepted table: where each block's entries start, the entry that binds each variable node's number, and the highest number.
pub record Found (ws ls starts bindings : List ℕ) (highest : ℕ) : Type 0 where
  pub started : Started ws ls starts
  pub bound : Bound ws ls bindings
  pub highest_is : highest ≡ highest_number (table_of ws ls)
  pub highest_limit : highest ≤ 65535
