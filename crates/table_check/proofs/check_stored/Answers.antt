-- `table_check::check_stored` meets its contract: its answer is that of `check_with` where a block may be empty.
-- Assumes nothing.
use Rattle.table_check.proofs.check_stored.Goals as goal

pub returns : goal.returns
returns c = record { verdict = c.check_with.ensures }
