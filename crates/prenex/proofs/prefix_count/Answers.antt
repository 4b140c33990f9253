-- `prenex::prefix_count` meets its contract.
-- Assumes nothing.
use mathlib.Core.Path.{sym}
use borrow.Author.Tests.{eq-eqb, ne_eqb}
use Rattle.lists.specs.Choice.{pick_yes, pick_no}
use Rattle.prenex.proofs.prefix_count.Goals as goal

pub returns-then-blocks-eq0 : goal.returns-then-blocks-eq0
returns-then-blocks-eq0 c = sym (pick_yes _ _ _ (eq-eqb _ 0 c.if-blocks-eq0.true))

pub returns : goal.returns
returns c = sym (pick_no _ _ _ (ne_eqb _ 0 c.if-blocks-eq0.false))
