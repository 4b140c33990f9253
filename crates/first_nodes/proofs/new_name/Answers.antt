-- `first_nodes::new_name` meets its contract: by the entry that binds the number.
-- Assumes nothing.
use native.Mathlib.Omega.{arith}
use Rattle.acceptance.proofs.Accepted.{accepted_holds}
use Rattle.first_nodes.proofs.Renamed.{keeps_number, name_small, takes_name}
use Rattle.first_nodes.proofs.new_name.Goals as goal

pub bounds-renaming-i : goal.bounds-renaming-i
bounds-renaming-i c =
    let p = c.requires in
    let g = c.args.renaming.now.given in
    omega (arith, (accepted_holds _ _ g.accepts).nodes_limit, g.entries_bound.bindings_length, p.i_bound_1)

pub returns-then-entry-eq0 : goal.returns-then-entry-eq0
returns-then-entry-eq0 c =
    let p = c.requires in
    keeps_number c.args.renaming.now.given _ _ p.i_bound_1 p.i_bound_2 c.if-entry-eq0.true

pub overflow_add-result : goal.overflow_add-result
overflow_add-result c =
    let p = c.requires in
    omega (arith, name_small c.args.renaming.now.given _ _ p.i_bound_1 p.i_bound_2 c.if-entry-eq0.false)

pub returns : goal.returns
returns c =
    let p = c.requires in
    takes_name c.args.renaming.now.given _ _ p.i_bound_1 p.i_bound_2 c.if-entry-eq0.false
