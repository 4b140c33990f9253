-- The root of an accepted table.
-- Assumes nothing.
use mathlib.Core.Path.{◌≡◌}
use mathlib.Core.List.{List}
use Prim.Native.Nat.{ℕ, ◌+◌, ◌-◌, ◌*◌, ◌≤◌}
use native.Mathlib.Omega.{arith}
use lib.ListN.{length}
use Rattle.formula.specs.Words.{width, node_count, table_of}
use Rattle.refusals.specs.Verdict.{accepted}
use Rattle.acceptance.specs.Verdict.{verdict}
use Rattle.acceptance.proofs.Accepted.{accepted_holds}

module _ (ws ls : List ℕ) where
  -- an accepted table has a root
  pub has_root : verdict ws ls ≡ accepted → 1 ≤ node_count ws
  unfolding table_of
  has_root v = (accepted_holds ws ls v).proper.tree.nonempty

  pub root_fits : verdict ws ls ≡ accepted → width * (node_count ws - 1) + width ≤ length ws
  root_fits v = omega (arith, has_root v)
