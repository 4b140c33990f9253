-- `qdimacs_prefix::put_free` meets its contract. The invariant: the names below x that have the flag 2 are put.
-- Assumes nothing.
use mathlib.Core.Path.{◌≡◌}
use Prim.Native.Nat.{suc, ◌+◌}
use native.Mathlib.Omega.{arith}
use lib.ListN.{get_or, take, length-take}
use Rattle.std.proofs.lemmas.Grind.{common_steps}
use Rattle.qdimacs_prefix.proofs.Steps.{free_none, free_next}
use Rattle.qdimacs_prefix.proofs.put_free.Goals as goal

pub loop-x-init : goal.loop-x-init
loop-x-init c = record { bound = omega arith; goes = search free_none }

pub loop-x-preserved : goal.loop-x-preserved
loop-x-preserved c =
    let names = c.args.names.now in
    let same : get_or (take (c.args.highest + 1) names) c.loop-x.x 0 ≡ get_or names c.loop-x.x 0 = grind (arith, common_steps) in record {
      bound = omega arith;
      goes = free_next _ 5 names c.loop-x.x c.loop-x.invariant.goes (rw same at c.put_free_name-next.ensures.goes);
    }

pub returns : goal.returns
returns c =
    let e : c.loop-x.x ≡ suc c.args.highest = omega (arith, length-take (c.args.highest + 1) c.args.names.now) in record {
      goes = rw e at c.loop-x.invariant.goes;
      at_bound = omega (arith, e, c.loop-x.invariant.bound);
    }
