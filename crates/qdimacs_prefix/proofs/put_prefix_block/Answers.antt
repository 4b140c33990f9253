-- `qdimacs_prefix::put_prefix_block` meets its contract.
-- Assumes nothing.
use mathlib.Core.Path.{ap}
use Prim.Native.Nat.{◌+◌, ◌*◌}
use native.Mathlib.Omega.{arith}
use lib.ListN.{length}
use Rattle.form_check.proofs.Entries.{read_names_lem, read_length, read_below}
use Rattle.texts.specs.Bounds.{number_bound}
use Rattle.qdimacs_prefix.proofs.Prefix.{block_read}
use Rattle.qdimacs_prefix.proofs.put_prefix_block.Goals as goal

pub put_block-requires : goal.put_block-requires
put_block-requires c =
    let l = read_length c.args.prefix.now c.args.variables.now c.args.j in
    let few = c.type_inv.prefix (3 * c.args.j + 2) in
    let low = read_below c.args.prefix.now c.args.variables.now c.args.j number_bound c.requires.all_writable in
    (c.requires.prefix_width_in_bounds.1, omega arith, low)

pub returns : goal.returns
returns c =
    let l = ap length (read_names_lem c.args.prefix.now c.args.variables.now c.args.j) in record {
      goes = block_read c.args.prefix.now c.args.variables.now _ c.args.j c.requires.j_value (rw c.of-quantifier.ensures at c.put_block.ensures.goes);
      at_bound = omega arith;
    }
