-- `remove_empty_blocks::count_left` meets its contract. The invariant: `left` is how many of the nodes passed stay.
-- Assumes nothing.
use mathlib.Core.Path.{◌≡◌, refl}
use Prim.Native.Nat.{◌+◌}
use native.Mathlib.Omega.{arith}
use Rattle.lists.specs.Parts.{sum}
use Rattle.formula.specs.Words.{node_count}
use Rattle.empty_blocks.specs.Removal.{left_below}
use Rattle.remove_empty_blocks.proofs.Left.{left_le, left_counted}
use Rattle.remove_empty_blocks.proofs.count_left.Goals as goal

pub loop-i-init : goal.loop-i-init
unfolding left_below sum
loop-i-init c = refl

pub overflow_add-left : goal.overflow_add-left
overflow_add-left c =
    let l = c.loop-i in
    let e = left_counted c.args.words.now l.i _ c.stays.ensures in
    omega (arith, l.invariant, e, left_le c.args.words.now (l.i + 1), c.requires.few)

pub loop-i-preserved : goal.loop-i-preserved
loop-i-preserved c = let l = c.loop-i in omega (arith, l.invariant, left_counted _ l.i _ c.stays.ensures)

pub returns : goal.returns
returns c =
    let l = c.loop-i in
    let all : node_count c.args.words.now ≡ l.i = omega arith in rw all l.invariant
