-- `tree_check::check_tree` meets its contract: the lowest node that the array does not hold 1 for is the one that refusal 8 is given at, and its first users are looked for.
-- Assumes nothing.
use mathlib.Core.Path.{sym, ◌∙◌, ap}
use native.Mathlib.Omega.{arith}
use Rattle.refusals.specs.Verdict.{not_a_tree}
use Rattle.tree_check.proofs.Counts.{other_found, other_none}
use Rattle.tree_check.proofs.Named.{tree_refused, tree_passed}
use Rattle.tree_check.proofs.check_tree.Goals as goal

pub returns-in-Some : goal.returns-in-Some
returns-in-Some c =
    let found = other_found c.args.named.now _ (omega arith) _ c.in-Some.ensures.0 c.in-Some.ensures.1 c.in-Some.ensures.2 in
    c.not_a_tree.ensures
    ∙ ap (not_a_tree _) c.lowest_users.ensures
    ∙ sym (tree_refused _ _ c.requires.counted _ found.1 found.0)

pub returns-in-None : goal.returns-in-None
returns-in-None c =
    c.accepted.ensures ∙ sym (tree_passed _ _ c.requires.counted _ (other_none c.args.named.now _ (omega arith) c.in-None.ensures) (omega arith))
