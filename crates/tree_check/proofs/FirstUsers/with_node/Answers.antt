-- `tree_check::FirstUsers::with_node` meets its contract: the fields that name node x, by the node's kind.
-- Assumes nothing.
use mathlib.Core.Path.{◌∙◌}
use Rattle.tree_check.proofs.Users.{node_put}
use Rattle.tree_check.proofs.FirstUsers.with_node.Goals as goal

pub returns : goal.returns
returns c =
    let block = c.is_block_kind-block.ensures in
    λ us h. rw block at (c.with_user-2.ensures _ (c.with_user.ensures us h)) ∙ node_put us _ _ _
