-- `wakubinryo_tables::wakubinryo_measure` meets its contract.
-- Assumes nothing.
use mathlib.Core.Path.{◌∙◌}
use Rattle.wakubinryo_tables.proofs.Answers.{sizes_said}
use Rattle.wakubinryo_tables.proofs.wakubinryo_measure.Goals as goal

pub returns : goal.returns
returns c =
    let m = c.measure.ensures in record {
      answer = c.put_answer.ensures ∙ m.answer;
      sizes = sizes_said _ _ _ c.put_answer.ensures m.sizes;
    }
