-- `wakubinryo_texts::wakubinryo_measure_text` meets its contract.
-- Assumes nothing.
use mathlib.Core.Path.{sym, subst}
use Rattle.lift_text.specs.Measuring.{MeasuresText}
use Rattle.lift_text.proofs.Plain.{measuring_plain}
use Rattle.wakubinryo_texts.proofs.wakubinryo_measure_text.Goals as goal

pub put_measure-requires : goal.put_measure-requires
put_measure-requires c = measuring_plain _ _ c.measure_text.ensures.outcome

pub returns : goal.returns
returns c = subst (MeasuresText c.args.text.now) (sym c.put_measure.ensures) c.measure_text.ensures
