-- `lift_kept::lift_below` meets its contract.
-- Assumes nothing.
use mathlib.Core.Path.{sym, ◌∙◌}
use native.Mathlib.Omega.{arith}
use lib.Seq.{length-take-le}
use Rattle.lift_kept.specs.Steps.{Doable, Does}
use Rattle.lift_kept.proofs.Calls.{taken_few, words_few, lent_accepted, lent_call, below_short, room_left, prefix_kept, variables_kept, can_move, nodes_fit, bound_fits, blocks_fit, below_done, answered}
use Rattle.lift_kept.proofs.lift_below.Goals as goal

pub overflow_mul-end : goal.overflow_mul-end
overflow_mul-end c = omega (arith, taken_few c.args.words.now c.args.list.now c.requires.list_value c.args.front c.requires.front_to)

pub overflow_sub-end : goal.overflow_sub-end
overflow_sub-end c = words_few c.args.words.now c.args.list.now c.requires.list_value c.args.front c.requires.front_to

pub slice_bounds-lift_accepted-end : goal.slice_bounds-lift_accepted-end
slice_bounds-lift_accepted-end c = sym (length-take-le _ _ (omega arith))

pub lift_accepted-lifted-requires : goal.lift_accepted-lifted-requires
lift_accepted-lifted-requires c = lent_accepted c.args.words.now c.args.list.now c.requires.list_value c.args.front c.requires.front_to

pub returns-then-verdict-ne-ACCEPTED : goal.returns-then-verdict-ne-ACCEPTED
returns-then-verdict-ne-ACCEPTED c = below_short c.args.words.now c.args.list.now c.requires.list_value c.args.front c.requires.front_to _ _ _ c.requires.front_room _ _ _ _ (lent_call c.args.words.now c.args.list.now c.requires.list_value c.args.front c.requires.front_to _ _ _ c.requires.front_room _ c.lift_accepted-lifted.ensures) c.if-verdict-ne-ACCEPTED.true

pub with_flags-requires : goal.with_flags-requires
unfolding Doable
with_flags-requires c =
    let z = c.if-verdict-ne-ACCEPTED.false in record {
      list_value = c.requires.list_value;
      doable = (
        c.requires.front_to,
        (
          room_left c.args.words.now c.args.list.now c.requires.list_value c.args.front c.requires.front_to _ _ _ c.requires.front_room _ _ _ _ (lent_call c.args.words.now c.args.list.now c.requires.list_value c.args.front c.requires.front_to _ _ _ c.requires.front_room _ c.lift_accepted-lifted.ensures) z,
          can_move c.args.words.now c.args.list.now c.requires.list_value c.args.front c.requires.front_to _ _ _ c.requires.front_room _ _ _ _ (lent_call c.args.words.now c.args.list.now c.requires.list_value c.args.front c.requires.front_to _ _ _ c.requires.front_room _ c.lift_accepted-lifted.ensures) z,
        ),
      );
    }

pub with_front-requires : goal.with_front-requires
with_front-requires c =
    let z = c.if-verdict-ne-ACCEPTED.false in record {
      taken_bound = nodes_fit c.args.words.now c.args.list.now c.requires.list_value c.args.front c.requires.front_to _ _ _ c.requires.front_room _ _ _ _ (lent_call c.args.words.now c.args.list.now c.requires.list_value c.args.front c.requires.front_to _ _ _ c.requires.front_room _ c.lift_accepted-lifted.ensures) z;
      bound_bound = bound_fits c.args.words.now c.args.list.now c.requires.list_value c.args.front c.requires.front_to _ _ _ c.requires.front_room _ _ _ _ (lent_call c.args.words.now c.args.list.now c.requires.list_value c.args.front c.requires.front_to _ _ _ c.requires.front_room _ c.lift_accepted-lifted.ensures) z;
      blocks_bound = blocks_fit c.args.words.now c.args.list.now c.requires.list_value c.args.front c.requires.front_to _ _ _ c.requires.front_room _ _ _ _ (lent_call c.args.words.now c.args.list.now c.requires.list_value c.args.front c.requires.front_to _ _ _ c.requires.front_room _ c.lift_accepted-lifted.ensures) z;
    }

pub shape_of-nodes : goal.shape_of-nodes
shape_of-nodes c = c.lift_accepted-lifted.auto.nodes

pub shape_of-prefix : goal.shape_of-prefix
shape_of-prefix c =
    let z = c.if-verdict-ne-ACCEPTED.false in
    c.with_flags.auto.prefix ∙ prefix_kept c.args.words.now c.args.list.now c.requires.list_value c.args.front c.requires.front_to _ _ _ c.requires.front_room _ _ _ _ (lent_call c.args.words.now c.args.list.now c.requires.list_value c.args.front c.requires.front_to _ _ _ c.requires.front_room _ c.lift_accepted-lifted.ensures) z

pub shape_of-variables : goal.shape_of-variables
shape_of-variables c =
    let z = c.if-verdict-ne-ACCEPTED.false in
    c.with_flags.auto.variables ∙ variables_kept c.args.words.now c.args.list.now c.requires.list_value c.args.front c.requires.front_to _ _ _ c.requires.front_room _ _ _ _ (lent_call c.args.words.now c.args.list.now c.requires.list_value c.args.front c.requires.front_to _ _ _ c.requires.front_room _ c.lift_accepted-lifted.ensures) z

pub returns : goal.returns
unfolding Does
returns c =
    let z = c.if-verdict-ne-ACCEPTED.false in
    below_done c.args.words.now c.args.list.now c.requires.list_value c.args.front c.requires.front_to _ _ _ c.requires.front_room _ _ _ _ (lent_call c.args.words.now c.args.list.now c.requires.list_value c.args.front c.requires.front_to _ _ _ c.requires.front_room _ c.lift_accepted-lifted.ensures) z _ _ c.with_flags.ensures _ (answered _ _ _ c.with_front.ensures c.done.ensures)
