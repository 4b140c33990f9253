-- `scopes::hand_down` meets its contract.
-- Assumes nothing.
use borrow.Author.Rules.{rules}
use Rattle.scopes.proofs.Stores.{stored_one}
use Rattle.scopes.proofs.hand_down.Goals as goal

pub returns : goal.returns
returns c =
    record {
      stored = stored_one _ _ _ (search rules);
      stored_2 = stored_one _ _ _ (search rules);
    }
