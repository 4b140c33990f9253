-- `free_variables::set_flag` meets its contract: the flag was set before, or one more is set.
-- Assumes nothing.
use mathlib.Core.Path.{refl}
use native.Mathlib.Omega.{arith}
use borrow.Author.Rules.{rules}
use Rattle.free_variables.proofs.Flags.{set_again, set_new, flagged_low}
use Rattle.free_variables.proofs.set_flag.Goals as goal

pub overflow_add-found : goal.overflow_add-found
overflow_add-found c = omega (arith, c.requires.x_in_bounds, c.requires.are_set.count_is, flagged_low c.args.flags.now)

pub returns-then-not-seen : goal.returns-then-not-seen
returns-then-not-seen c =
    (refl, set_new c.args.flags.now c.args.x _ _ c.requires.are_set c.requires.x_in_bounds.0 c.if-not-seen.true refl (search rules) (search rules))

pub returns-else-not-seen : goal.returns-else-not-seen
returns-else-not-seen c = (refl, set_again c.args.flags.now c.args.x _ c.requires.are_set c.if-not-seen.false)
