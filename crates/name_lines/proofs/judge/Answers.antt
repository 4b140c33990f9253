-- `name_lines::judge` meets its contract.
-- Assumes nothing.
use mathlib.Core.Path.{sym, ◌∙◌}
use native.Mathlib.Omega.{arith}
use Rattle.name_lines.proofs.Verdicts.{judged_many, judged_long, judged_taken}
use Rattle.name_lines.proofs.judge.Goals as goal

pub returns-then-count-gt-NAMES : goal.returns-then-count-gt-NAMES
returns-then-count-gt-NAMES c = c.refusal.ensures ∙ sym (judged_many _ _ c.if-count-gt-NAMES.true)

pub returns-then-long : goal.returns-then-long
returns-then-long c = c.refusal-then-long.ensures ∙ sym (judged_long _ _ (omega (arith, c.if-count-gt-NAMES.false)) c.if-long.true)

pub returns : goal.returns
returns c = c.accepted.ensures ∙ sym (judged_taken _ _ (omega (arith, c.if-count-gt-NAMES.false)) c.if-long.false)
