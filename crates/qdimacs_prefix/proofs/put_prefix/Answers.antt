-- `qdimacs_prefix::put_prefix` meets its contract. The invariant: the first j blocks are put.
-- Assumes nothing.
use mathlib.Core.Path.{◌≡◌}
use Prim.Native.Nat.{◌/◌}
use native.Mathlib.Omega.{arith}
use lib.ListN.{length}
use Rattle.formula.specs.Form.{prefix_width}
use Rattle.qdimacs_prefix.proofs.Prefix.{no_names, more_names_lem, begun_few, blocks_none, blocks_next, blocks_all}
use Rattle.qdimacs_prefix.proofs.put_prefix.Goals as goal

pub loop-j-init : goal.loop-j-init
loop-j-init c = record { bound = omega (arith, no_names c.args.prefix.now c.args.variables.now); goes = blocks_none c.args.prefix.now c.args.variables.now }

pub put_prefix_block-next-requires : goal.put_prefix_block-next-requires
put_prefix_block-next-requires c =
    let l = c.loop-j in
    let j = l.j in
    let h = c.loop-j-test.true in
    let w = begun_few c.args.prefix.now c.args.variables.now j c.requires.prefix_held (omega arith) in record {
      prefix_width_in_bounds = (omega (arith, h), omega (arith, w, l.invariant.bound, c.requires.at_bound));
      j_value = c.requires.prefix_held.kinds j h;
      j_in_bounds = c.requires.prefix_held.fits j h;
      all_writable = c.requires.prefix_held.writable j h;
    }

pub loop-j-preserved : goal.loop-j-preserved
loop-j-preserved c =
    let m = more_names_lem c.args.prefix.now c.args.variables.now c.loop-j.j in
    record { bound = omega arith; goes = search blocks_next }

pub returns : goal.returns
returns c =
    let l = c.loop-j in
    let e : l.j ≡ length c.args.prefix.now / prefix_width = omega arith in
    let w = begun_few c.args.prefix.now c.args.variables.now l.j c.requires.prefix_held (omega arith) in record {
      goes = blocks_all c.args.prefix.now c.args.variables.now _ l.j e l.invariant.goes;
      at_bound_2 = omega (arith, w, l.invariant.bound);
    }
