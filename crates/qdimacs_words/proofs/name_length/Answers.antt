-- `qdimacs_words::name_length` meets its contract.
-- Assumes nothing.
use mathlib.Core.Path.{ap}
use Prim.Native.Nat.{◌+◌}
use native.Mathlib.Omega.{arith}
use Rattle.texts.proofs.Lengths.{digits_at, at_most_six}
use Rattle.qdimacs_words.proofs.name_length.Goals as goal

pub returns-then-x-lt10000 : goal.returns-then-x-lt10000
returns-then-x-lt10000 c = ap (λ n. n + 1) c.digit_count.ensures

pub returns-then-x-lt100000 : goal.returns-then-x-lt100000
returns-then-x-lt100000 c = omega (arith, digits_at 4 c.args.x (omega arith) (omega arith))

pub returns : goal.returns
returns c = omega (arith, digits_at 5 c.args.x (omega arith) (omega arith))

pub overflow_add-result : goal.overflow_add-result
overflow_add-result c = omega (arith, at_most_six c.args.x (omega arith), c.digit_count.ensures)
