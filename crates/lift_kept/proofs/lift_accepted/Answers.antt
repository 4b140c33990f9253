-- `lift_kept::lift_accepted` meets its contract.
-- Assumes nothing.
use mathlib.Core.Path.{◌∙◌}
use native.Mathlib.Omega.{arith}
use Rattle.prenex.specs.Outcome.{buffers}
use Rattle.lift_kept.specs.Outcome.{lifted_kept}
use Rattle.lift_kept.specs.Steps.{Doable, Does}
use Rattle.lift_kept.proofs.Calls.{blocks_low, front_short, names_short}
use Rattle.lift_kept.proofs.lift_accepted.Goals as goal

pub with_flags-front-requires : goal.with_flags-front-requires
unfolding Doable
with_flags-front-requires c =
    record {
      list_value = c.requires;
      doable = tt;
    }

pub overflow_mul-front : goal.overflow_mul-front
unfolding Does
overflow_mul-front c = omega (arith, blocks_low c.args.words.now c.args.list.now c.requires _ c.with_flags-front.ensures.0)

pub returns-then-prefix-front : goal.returns-then-prefix-front
unfolding Does
returns-then-prefix-front c =
    front_short c.args.words.now c.args.list.now c.requires _ c.with_flags-front.ensures.0 _ _ _ (omega arith) _ c.short.ensures
    ∙ (λ i. lifted_kept c.args.words.now c.args.list.now (buffers c.args.nodes.now (c.with_flags-front.ensures.1.0 i) (c.with_flags-front.ensures.1.1 i)))

pub returns-then-variables-front : goal.returns-then-variables-front
unfolding Does
returns-then-variables-front c =
    names_short c.args.words.now c.args.list.now c.requires _ c.with_flags-front.ensures.0 _ _ _ (omega arith) _ c.short-then-variables-front.ensures
    ∙ (λ i. lifted_kept c.args.words.now c.args.list.now (buffers c.args.nodes.now (c.with_flags-front.ensures.1.0 i) (c.with_flags-front.ensures.1.1 i)))

pub lift_below-requires : goal.lift_below-requires
unfolding Does
lift_below-requires c =
    record {
      list_value = c.requires;
      front_to = c.with_flags-front.ensures.0;
      front_room = record { blocks_fit = omega arith; names_fit = omega arith };
    }

pub returns : goal.returns
unfolding Does
returns c =
    c.lift_below.ensures
    ∙ (λ i. lifted_kept c.args.words.now c.args.list.now (buffers c.args.nodes.now (c.with_flags-front.ensures.1.0 i) (c.with_flags-front.ensures.1.1 i)))
