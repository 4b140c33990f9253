-- `qcir_scan::scan` meets its contract.
-- Assumes nothing.
use Rattle.qcir_scan.proofs.Scans.{headless}
use Rattle.qcir_scan.proofs.scan.Goals as goal

pub returns-then-at-lt9 : goal.returns-then-at-lt9
returns-then-at-lt9 c =
    let a = c.args in
    headless a.text.now a.roles.now a.numbers.now a.positions.now a.at c.requires.at_value c.if-at-lt9.true
