-- `tree_check::FirstUsers::with_user` meets its contract: each return, by how many users there were.
-- Assumes nothing.
use Rattle.tree_check.proofs.Users.{put_none, put_first, put_second, put_further}
use Rattle.tree_check.proofs.FirstUsers.with_user.Goals as goal

pub returns-then-not-names : goal.returns-then-not-names
returns-then-not-names c = λ us h. put_none us _ _ _ h c.if-not-names.true

pub returns-then-self-eq0 : goal.returns-then-self-eq0
returns-then-self-eq0 c = λ us h. put_first us _ _ _ h c.if-not-names.false c.if-self-eq0.true

pub returns-then-self-eq1 : goal.returns-then-self-eq1
returns-then-self-eq1 c = λ us h. put_second us _ _ _ h c.if-not-names.false c.if-self-eq1.true

pub returns : goal.returns
returns c = λ us h. put_further us _ _ _ h c.if-not-names.false c.if-self-eq0.false c.if-self-eq1.false
