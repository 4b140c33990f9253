-- `tree_check::lowest_users` meets its contract: the loop's invariant: the first users among the nodes passed so far are known.
-- Assumes nothing.
use mathlib.Core.Path.{◌≡◌}
use Rattle.tree_check.specs.Named.{users_below, first_users}
use Rattle.tree_check.proofs.lowest_users.Given as goal

abbrev pub invariant-loop-i : goal.invariant-loop-i
invariant-loop-i l = l.found ≡ first_users (users_below l.words l.x l.i)
