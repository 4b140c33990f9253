-- `qcir_lines::put_prefix_block` meets its contract.
-- Assumes nothing.
use native.Mathlib.Omega.{arith}
use Prim.Native.Nat.{◌+◌, ◌*◌}
use Rattle.texts.proofs.Put.{put_as}
use Rattle.form_check.proofs.Entries.{read_length, read_below}
use Rattle.texts.specs.Bounds.{number_bound}
use Rattle.qcir_lines.proofs.Prefix.{read_text}
use Rattle.qcir_lines.proofs.put_prefix_block.Goals as goal

pub put_block-requires : goal.put_block-requires
put_block-requires c =
    let l = read_length c.args.prefix.now c.args.variables.now c.args.j in
    (c.requires.prefix_width_in_bounds.1, omega (arith, l, c.type_inv.prefix (3 * c.args.j + 2)), read_below c.args.prefix.now c.args.variables.now c.args.j number_bound c.requires.all_writable)

pub returns : goal.returns
returns c = put_as (read_text c.args.prefix.now c.args.variables.now c.args.j) c.put_block.ensures.put
