-- `remove_empty_blocks::write_left` meets its contract. The invariant: what is left of the nodes passed stands at the start of the
-- buffer, `at` nodes of it, and their new indices in the array.
-- Assumes nothing.
use mathlib.Core.Path.{◌≡◌, refl, sym}
use Prim.Native.Nat.{ℕ, ◌+◌, ◌*◌, ◌<◌}
use native.Mathlib.Omega.{arith}
use lib.ListN.{length, length-replicate}
use Rattle.lists.specs.Parts.{sum, up_to}
use Rattle.lists.proofs.Overwrite.{overwrite_nil, overwrite_next, room_for-part}
use Rattle.formula.specs.Words.{width, node_count}
use Rattle.empty_blocks.specs.Removal.{left_below, left_of, without_empty_blocks}
use Rattle.empty_blocks.proofs.Left.{length_left}
use Rattle.remove_empty_blocks.proofs.Left.{left_grows}
use Rattle.remove_empty_blocks.proofs.write_left.Goals as goal

pub loop-i-init : goal.loop-i-init
unfolding left_below sum up_to
loop-i-init c = (
  refl,
  record { long = length-replicate {A = ℕ} 4096 0; index_is = λ j l. absurd (omega arith) },
  sym (overwrite_nil _ _),
)

pub write_node-at-requires : goal.write_node-at-requires
write_node-at-requires c =
    let l = c.loop-i in
    let g = left_grows c.args.words.now (l.i + 1) (node_count c.args.words.now) (omega arith) in record {
      small_table = c.requires.small_table;
      i_bound = c.loop-i-test.true;
      new_indices = l.invariant.1;
      at_value = l.invariant.0;
      i_in_bounds = omega (arith, g, c.requires.words_in_bounds);
    }

pub loop-i-preserved : goal.loop-i-preserved
loop-i-preserved c =
    let l = c.loop-i in
    let ws = c.args.words.now in
    let g = left_of ws in
    let at : width * l.at ≡ 0 + length (up_to g l.i) = omega (arith, length_left ws l.i, l.invariant.0) in
    let n = node_count ws in
    let more : l.i < n = c.loop-i-test.true in
    let room = room_for-part g 0 l.i n (length c.args.nodes.now) more (omega (arith, length_left ws n, c.requires.words_in_bounds)) in (
      c.write_node-at.ensures.value,
      c.write_node-at.ensures.new_indices_2,
      overwrite_next g _ _ _ 0 l.i l.invariant.2 (rw (← at) c.write_node-at.ensures.nodes_after) room,
    )

pub returns : goal.returns
unfolding without_empty_blocks
returns c =
    let l = c.loop-i in
    let all : node_count c.args.words.now ≡ l.i = omega arith in rw all l.invariant.2
