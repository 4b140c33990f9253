-- `wakubinryo_tables::wakubinryo_lift` meets its contract.
-- Assumes nothing.
use Rattle.prenex.specs.Outcome.{FormWritten}
use Rattle.wakubinryo_tables.proofs.Answers.{said, promise_said, sizes_said}
use Rattle.wakubinryo_tables.proofs.wakubinryo_lift.Goals as goal

pub returns : goal.returns
returns c =
    let f = c.lift.ensures in
    let e = c.put_answer.ensures in record {
      outcome = said _ _ _ _ e f.outcome;
      sizes = sizes_said _ _ _ e f.sizes;
      form = promise_said (FormWritten _) _ _ _ e f.form;
    }
