-- `qcir_rows::row_of` meets its contract: the table stands for the sixteen rows, which is computed here, and so what stands at each of
-- its places is its row.
-- Assumes nothing.
use Rattle.qcir_form.specs.Rows.{rows, row}
use Rattle.qcir_rows.specs.declared.TheConstants.{ROWS}
use Rattle.qcir_rows.proofs.Table.{entry_at}
use Rattle.qcir_rows.proofs.row_of.Goals as goal

pub returns : goal.returns
unfolding row rows
returns c = entry_at ROWS c.args.table
