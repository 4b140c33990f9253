-- `wakubinryo_tables::put_answer` meets its contract.
-- Assumes nothing.
use mathlib.Core.Path.{refl}
use Rattle.wakubinryo_tables.specs.Words.{verdict_in, sizes_answer}
use Rattle.wakubinryo_tables.proofs.put_answer.Goals as goal

pub returns : goal.returns
unfolding verdict_in sizes_answer
returns c = refl
