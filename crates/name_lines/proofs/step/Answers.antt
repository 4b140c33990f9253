use native.Mathlib.Omega.{arith}
use Rattle.name_lines.proofs.Kept.{still_over, for_byte}
use Rattle.name_lines.proofs.step.Goals as goal

pub returns-then-s-gt-NAMES : goal.returns-then-s-gt-NAMES
returns-then-s-gt-NAMES c = λ a h. still_over a _ _ _ (omega arith) h

pub returns-then-byte-eq-LINE_END : goal.returns-then-byte-eq-LINE_END
returns-then-byte-eq-LINE_END c = λ a h. for_byte a _ _ _ c.if-byte-eq-LINE_END.true (c.end_line.ensures a h)
