-- `texts::put_number` meets its contract.
-- Assumes nothing.
use native.Mathlib.Omega.{arith}
use Rattle.texts.proofs.Lengths.{at_most_six}
use Rattle.texts.proofs.put_number.Goals as goal

pub put_digits-requires : goal.put_digits-requires
put_digits-requires c =
    let six = at_most_six c.args.x c.requires.1 in
    (c.requires.0, rw c.from.ensures c.digit_count.ensures, omega (arith, six, c.digit_count.ensures))

pub returns-clause-upper_bound : goal.returns-clause-upper_bound
returns-clause-upper_bound c = omega (arith, c.put_digits.ensures.counted, at_most_six c.from.result (omega arith))
