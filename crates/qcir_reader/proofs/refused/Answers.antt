-- `qcir_reader::refused` meets its contract.
-- Assumes nothing.
use mathlib.Core.Path.{refl}
use Rattle.refusals.specs.Outcome.{refused}
use Rattle.qcir.specs.Reading.{none_written}
use Rattle.qcir_reader.proofs.refused.Goals as goal

pub returns : goal.returns
unfolding refused none_written
returns c = refl
