-- `wakubinryo_tables::put_count` meets its contract.
-- Assumes nothing.
use mathlib.Core.Path.{refl}
use Rattle.wakubinryo_tables.specs.Words.{verdict_in, count_answer}
use Rattle.wakubinryo_tables.proofs.put_count.Goals as goal

pub returns : goal.returns
unfolding verdict_in count_answer
returns c = refl
