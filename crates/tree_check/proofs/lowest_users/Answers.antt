-- `tree_check::lowest_users` meets its contract: the loop's invariant: the first users among the nodes passed so far are known.
-- Assumes nothing.
use mathlib.Core.Path.{sym, ap}
use Prim.Native.Nat.{◌+◌}
use native.Mathlib.Omega.{arith}
use Rattle.tree_check.specs.Named.{first_users}
use Rattle.tree_check.proofs.Users.{users_none, found_next, two_known}
use Rattle.tree_check.proofs.lowest_users.Goals as goal

pub loop-i-init : goal.loop-i-init
unfolding first_users
loop-i-init c = sym (ap first_users (users_none _ _))

pub returns-then-found-eq2 : goal.returns-then-found-eq2
returns-then-found-eq2 c =
    let found = found_next _ _ _ _ _ _ c.node_at.ensures c.loop-i.invariant c.with_node-found.ensures in
    c.users.ensures _ (two_known _ _ _ (c.loop-i.i + 1) _ (omega arith) found c.if-found-eq2.true)

pub loop-i-preserved : goal.loop-i-preserved
loop-i-preserved c = found_next _ _ _ _ _ _ c.node_at.ensures c.loop-i.invariant c.with_node-found.ensures
