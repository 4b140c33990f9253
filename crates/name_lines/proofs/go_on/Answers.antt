use native.Mathlib.Omega.{arith}
use Rattle.name_lines.proofs.Kept.{goes_on, goes_on_long}
use Rattle.name_lines.proofs.go_on.Goals as goal

pub returns-then-s-gt-NAME : goal.returns-then-s-gt-NAME
returns-then-s-gt-NAME c = λ a h. goes_on_long a _ _ _ c.requires.0 c.requires.1 c.if-s-gt-NAME.true h

pub returns : goal.returns
returns c = λ a h. goes_on a _ _ _ _ _ c.requires.0 c.requires.1 c.requires.2 (omega (arith, c.if-s-gt-NAME.false)) c.keep.ensures h
