-- `growth::store_line` meets its contract.
-- Assumes nothing.
use mathlib.Core.Path.{◌≡◌}
use Prim.Native.Nat.{◌+◌, ◌*◌, ◌-◌}
use native.Mathlib.Omega.{arith}
use lib.Seq.{drop-drop}
use Rattle.lists.specs.Parts.{overwrite}
use Rattle.growth.specs.Lines.{line_width, line_figures}
use Rattle.growth.proofs.store_line.Goals as goal

pub returns : goal.returns
unfolding overwrite line_figures
returns c =
    let at = line_width * c.args.i in
    let k : at + line_width - at ≡ line_width = omega arith in
    rw (k, c.copy_from_slice.ensures.after, drop-drop)
