-- How many variables the prefix of an accepted table has.
-- Assumes nothing.
use mathlib.Core.Path.{◌≡◌}
use mathlib.Core.List.{List}
use Prim.Native.Nat.{ℕ, ◌*◌, ◌≤◌}
use native.Mathlib.Omega.{arith}
use lib.ListN.{length}
use Rattle.formula.specs.Words.{table_of}
use Rattle.refusals.specs.Verdict.{accepted}
use Rattle.acceptance.specs.Limits.{limit}
use Rattle.acceptance.specs.Verdict.{verdict}
use Rattle.acceptance.specs.Accepted.{Accepted}
use Rattle.acceptance.proofs.Accepted.{accepted_holds}
use Rattle.prenex_form.specs.Names.{bound_count}
use Rattle.prenex_form.specs.Prefix.{written_variables}
use Rattle.prenex_form.proofs.PrefixNames.{prefix_entries, entries_le, block_count-le}

module _ (ws ls : List ℕ) (v : verdict ws ls ≡ accepted) where
  ok : Accepted ws ls
  ok = accepted_holds ws ls v

  -- at most 4,096 names, 4,096 copies and 4,096 definition variables
  pub variables_le : length (written_variables (table_of ws ls)) ≤ 3 * limit
  unfolding table_of bound_count
  variables_le =
      let t = table_of ws ls in
      omega (arith, prefix_entries t ok.proper.tree, entries_le t, block_count-le t, ok.counts_limit, ok.nodes_limit)
