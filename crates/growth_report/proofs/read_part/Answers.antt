-- `growth_report::read_part` meets its contract.
-- Assumes nothing.
use Rattle.std.proofs.Common.{arith, sym, subst}
use mathlib.Core.List.{List, [], append-nil}
use Prim.Native.Nat.{ℕ}
use borrow.Author.Tests.{ltb-false}
use lib.ListN.{length-replicate}
use Rattle.std.proofs.KnownBytes.{Consumes-nil, Consumes-kept}
use Rattle.name_lines.specs.Kept.{HasRead}
use Rattle.growth_report.proofs.read_part.Goals as goal

pub returns-in-Ok-clause-read : goal.returns-in-Ok-clause-read
returns-in-Ok-clause-read g c = λ text h. (_, c.read_on.ensures text h, c.in-Ok.ensures.bytes.0)

pub returns-in-Ok-clause-end : goal.returns-in-Ok-clause-end
returns-in-Ok-clause-end g c = λ more _.
    c.in-Ok.ensures.bytes.1 (omega (arith, ltb-false _ _ more)) (omega (arith, c.read.auto.buf, length-replicate {A = ℕ} 4096 0))

pub returns-in-Err-clause-read : goal.returns-in-Err-clause-read
returns-in-Err-clause-read g c = λ text h.
    ([], subst (λ (l : List ℕ). HasRead l c.args.s c.args.kept.now) (sym (append-nil text)) h, Consumes-kept _ _ _ [] (Consumes-nil _) c.in-Err.ensures.bytes)
