-- `table_check::check` meets its contract: its answer is that of `check_with` where no block may be empty.
-- Assumes nothing.
use Rattle.table_check.proofs.check.Goals as goal

pub returns : goal.returns
returns c = record { verdict = c.check_with.ensures }
