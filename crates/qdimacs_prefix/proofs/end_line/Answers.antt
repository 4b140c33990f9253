-- `qdimacs_prefix::end_line` meets its contract.
-- Assumes nothing.
use native.Mathlib.Omega.{arith}
use Rattle.qdimacs_prefix.proofs.Steps.{ended_none, ended}
use Rattle.qdimacs_prefix.proofs.end_line.Goals as goal

pub returns-in-None : goal.returns-in-None
returns-in-None c = record { loose = ended_none _ c.in-None.is; upper_bound = omega arith }

pub returns-in-Some : goal.returns-in-Some
returns-in-Some c = record { loose = ended _ c.in-Some.field-0 c.in-Some.is c.put_word.ensures; upper_bound = omega arith }
