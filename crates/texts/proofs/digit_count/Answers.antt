-- `texts::digit_count` meets its contract.
-- Assumes nothing.
use mathlib.Core.Path.{sym}
use native.Mathlib.Omega.{arith}
use Rattle.texts.proofs.Numerals.{length_below_ten}
use Rattle.texts.proofs.Lengths.{digits_at}
use Rattle.texts.proofs.digit_count.Goals as goal

pub returns-in-100000-to-4294967295 : goal.returns-in-100000-to-4294967295
returns-in-100000-to-4294967295 c = sym (digits_at 5 _ (omega arith) (omega arith))

pub returns-in-10000-to-99999 : goal.returns-in-10000-to-99999
returns-in-10000-to-99999 c = sym (digits_at 4 _ (omega arith) (omega arith))

pub returns-in-1000-to-9999 : goal.returns-in-1000-to-9999
returns-in-1000-to-9999 c = sym (digits_at 3 _ (omega arith) (omega arith))

pub returns-in-100-to-999 : goal.returns-in-100-to-999
returns-in-100-to-999 c = sym (digits_at 2 _ (omega arith) (omega arith))

pub returns-in-10-to-99 : goal.returns-in-10-to-99
returns-in-10-to-99 c = sym (digits_at 1 _ (omega arith) (omega arith))

pub returns-in_default : goal.returns-in_default
returns-in_default c = sym (length_below_ten _ (omega arith))
