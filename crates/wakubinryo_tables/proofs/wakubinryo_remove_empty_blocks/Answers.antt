-- `wakubinryo_tables::wakubinryo_remove_empty_blocks` meets its contract.
-- Assumes nothing.
use Rattle.remove_empty_blocks.specs.Outcome.{after, TableLeft}
use Rattle.wakubinryo_tables.proofs.Answers.{said, promise_said}
use Rattle.wakubinryo_tables.proofs.wakubinryo_remove_empty_blocks.Goals as goal

pub returns : goal.returns
unfolding after
returns c =
    let r = c.remove_empty_blocks-left.ensures in
    let e = c.put_count.ensures in record {
      outcome = said _ _ _ _ e r.outcome;
      table = promise_said (TableLeft _ _) _ _ _ e r.table;
    }
