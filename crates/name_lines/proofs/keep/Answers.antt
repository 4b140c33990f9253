use native.Mathlib.Omega.{arith}
use mathlib.Core.Path.{refl}
use Rattle.name_lines.proofs.keep.Goals as goal

pub returns : goal.returns
returns c = record { same = refl; stored = λ l. absurd (omega (arith, c.if-at-kept.false)) }
