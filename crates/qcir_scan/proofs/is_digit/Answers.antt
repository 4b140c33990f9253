-- `qcir_scan::is_digit` meets its contract.
-- Assumes nothing.
use borrow.Author.Rules.{rules}
use Rattle.qcir.specs.Spelling.{is_digit}
use Rattle.qcir_scan.proofs.is_digit.Goals as goal

pub returns : goal.returns
unfolding is_digit
returns c = search rules
