-- `tree_check::FirstUsers::users` meets its contract.
-- Assumes nothing.
use mathlib.Core.Path.{◌∙◌, ap}
use Rattle.tree_check.specs.declared.FirstUsers.{FirstUsers}
use Rattle.tree_check.proofs.Users.{two_first}
use Rattle.tree_check.proofs.FirstUsers.users.Goals as goal

pub returns : goal.returns
returns c = λ us h. ap (λ (f : FirstUsers). record { first = f.first; second = f.second }) h ∙ two_first us
