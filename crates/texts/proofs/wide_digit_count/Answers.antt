-- `texts::wide_digit_count` meets its contract.
-- Assumes nothing.
use mathlib.Core.Path.{sym}
use native.Mathlib.Omega.{arith}
use Rattle.texts.proofs.Numerals.{length_below_ten}
use Rattle.texts.proofs.Lengths.{digits_at}
use Rattle.texts.proofs.wide_digit_count.Goals as goal

pub returns-in-Some : goal.returns-in-Some
returns-in-Some c =
    let log = c.in-Some.ensures in
    (sym (digits_at _ _ log.power_le log.next_power_gt), omega (arith, log.bound))

pub returns-in-None : goal.returns-in-None
returns-in-None c = (sym (length_below_ten _ (omega (arith, c.in-None.ensures.none))), omega arith)
