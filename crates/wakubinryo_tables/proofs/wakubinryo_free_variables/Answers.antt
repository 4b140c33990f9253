-- `wakubinryo_tables::wakubinryo_free_variables` meets its contract.
-- Assumes nothing.
use Rattle.free_variables.specs.Outcome.{after}
use Rattle.wakubinryo_tables.proofs.Answers.{said}
use Rattle.wakubinryo_tables.proofs.wakubinryo_free_variables.Goals as goal

pub returns : goal.returns
unfolding after
returns c = record { outcome = said _ _ _ _ c.put_count.ensures c.free_variables-listed.ensures.outcome }
